-- The value of a line that has it on every day.
use Rattle.std.specs.Prelude.{ℕ, List, [], ◌∷◌}
use Rattle.opa_value.specs.declared.value.Value.{Value}
use Rattle.opa_value.specs.declared.value.Value.TheVariants.{Uncertain}

-- the value of the first pair
abbrev pub value_of : List (ℕ × Value) → Value
value_of [] = Uncertain
value_of ((day, value) ∷ rest) = value
