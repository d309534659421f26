-- What one value leaves open and another tells.
use Rattle.std.specs.Prelude.{◌≡◌, ◌⊎◌}
use Rattle.opa_value.specs.declared.value.Value.{Value}
use Rattle.opa_value.specs.declared.value.Value.TheVariants as value

-- u is below v where u is unknown or u equals v
abbrev pub IsBelow : Value → Value → Type 0
IsBelow u v = (u ≡ value.Unknown) ⊎ (u ≡ v)
