-- What a concluded value is held to.
use Rattle.std.specs.Prelude.{Bool, true}
use Rattle.opa_value.specs.declared.value.Value.{Value}
use Rattle.opa_value.specs.declared.value.Value.TheVariants as value
use Rattle.opa_value.specs.Arithmetic.{rounded}

-- a number that is money is rounded to two decimals, and every other value stays
abbrev pub fit_of : Bool → Value → Value
fit_of true (value.Num n) = value.Num (rounded 2 n)
fit_of _ v = v
