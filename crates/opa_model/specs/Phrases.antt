-- Phrases that are declared one after another.
use Rattle.std.specs.Prelude.{ℕ, ◌≡◌, Bool, not, List, [], ◌∷◌, ◌++◌, if◌then◌else◌}
use Rattle.std.specs.Str.{bytes_eq}
use Rattle.std.specs.List.{list_any}

-- one of the phrases has these bytes
abbrev pub is_declared : List (List ℕ) → List ℕ → Bool
is_declared phrases phrase = list_any (bytes_eq phrase) phrases

-- a phrase goes last, unless it is declared
pub record Declares (old new : List (List ℕ)) (phrase : List ℕ) (is_new : Bool) : Type 0 where
  pub is_new_is : is_new ≡ not (is_declared old phrase)
  pub new_is : new ≡ (if is_declared old phrase then old else old ++ phrase ∷ [])
