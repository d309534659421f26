-- The values on the days of a window.
use Rattle.std.specs.Prelude.{ℕ, zero, suc, ◌+◌, ◌-◌, List, [], ◌∷◌, map}
use Rattle.opa_value.specs.declared.value.Value.{Value}
use Rattle.opa_value.specs.declared.value.Value.TheVariants as value
use Rattle.opa_line.specs.Lines.{at, value_or}

-- n days from s on
abbrev pub days : ℕ → ℕ → List ℕ
days s zero = []
days s (suc n) = s ∷ days (s + 1) n

-- the values from day s on and below day t; there is none where t isn't after s
abbrev pub over_days : {X : Type 0} → (ℕ → X) → ℕ → ℕ → List X
over_days x s t = map x (days s (t - s))

-- the values on the n days that end with day d, cut at day 0
abbrev pub last_days : {X : Type 0} → ℕ → (ℕ → X) → ℕ → List X
last_days n x d = over_days x (d + 1 - n) (d + 1)

-- the value of a line at a day
abbrev pub day_value : List (ℕ × Value) → ℕ → Value
day_value l d = value_or value.Unknown (at l d)
