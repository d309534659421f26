-- The pairs that a line holds, or that it has so far.
use Rattle.std.specs.Prelude.{ℕ, List, [], ◌∷◌}
use Rattle.opa_line.specs.declared.line.Held.{Held}
use Rattle.opa_line.specs.declared.line.Held.TheVariants as held
use Rattle.opa_line.specs.declared.builder.Begun.{Begun}
use Rattle.opa_line.specs.declared.builder.Begun.TheVariants as begun

module _ {X : Type 0} where
  abbrev pub pairs_held : Held X → List (ℕ × X)
  pairs_held (held.One pair) = pair
  pairs_held (held.Many pairs) = pairs.items

  abbrev pub pairs_begun : Begun X → List (ℕ × X)
  pairs_begun begun.Nothing = []
  pairs_begun (begun.One pair) = pair ∷ []
  pairs_begun (begun.Many pairs) = pairs.items
