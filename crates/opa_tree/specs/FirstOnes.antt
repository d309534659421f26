-- Things in their order, each once.
use Rattle.std.specs.Prelude.{Bool, List, [], ◌∷◌, ◌++◌, not, filter, if◌then◌else◌}
use Rattle.std.specs.List.{list_any}

module _ {X : Type 0} (same : X → X → Bool) where
  -- each thing where it stands first, and no further time
  abbrev pub first_ones : List X → List X
  first_ones [] = []
  first_ones (x ∷ xs) = x ∷ filter (λ y. not (same x y)) (first_ones xs)

  -- the thing goes last, unless it is there
  abbrev pub with_new : List X → X → List X
  with_new xs x = if list_any (same x) xs then xs else xs ++ x ∷ []
