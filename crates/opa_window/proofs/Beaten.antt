-- No value is greater or less than itself.
use Rattle.std.proofs.Common.{◌≡◌, Bool, true, false, refl, arith}
use Rattle.opa_value.specs.declared.value.Value.{Value}
use Rattle.opa_value.specs.declared.value.Value.TheVariants as value
use Rattle.opa_window.specs.Folds.{is_less, is_beaten_of}

not_less : (v : Value) → is_less v v ≡ false
not_less value.Unknown = refl
not_less value.Uncertain = refl
not_less (value.Bool _) = refl
not_less (value.Num n) = grind arith
not_less (value.Words _) = refl
not_less (value.Day n) = grind arith

pub never : (most : Bool) (v : Value) → is_beaten_of most v v ≡ false
never true v = not_less v
never false v = not_less v
