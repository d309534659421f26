-- A day is not before a date exactly where the date is at or before the day.
use Rattle.std.proofs.Common.{◌≡◌, inl, inr, ℕ, Bool, true, false, refl, ap}
use Rattle.std.specs.Prelude.{not, nat_lt, nat_le, if◌then◌else◌}
use Rattle.std.proofs.lemmas.Bool.{cases_lt, lt-ltb, le-ltb, lt-leb, le-leb}
use Rattle.opa_date.specs.declared.TheConstants.{DAYS}
use Rattle.opa_value.specs.declared.value.Value.{Value}
use Rattle.opa_value.specs.declared.value.Value.TheVariants as value
use Rattle.opa_value.specs.Truth.{not_of}
use Rattle.opa_window.specs.Windows.{before, on_or_after}

not_less : (d s : ℕ) → not (nat_lt d s) ≡ nat_le s d
not_less d s = elim (cases_lt d s) [
  | inl lt ↦ rw (lt-ltb d s lt, lt-leb s d lt) refl
  | inr le ↦ rw (le-ltb d s le, le-leb s d le) refl
]

pub not_before : (date : Value) (d : ℕ) → not_of (before date d) ≡ on_or_after date d
not_before value.Unknown d = refl
not_before (value.Day s) d = go (nat_lt s DAYS)
  where
    go : (b : Bool) → not_of (if b then value.Bool (nat_lt d s) else value.Uncertain) ≡ (if b then value.Bool (nat_le s d) else value.Uncertain)
    go true = ap (λ b. value.Bool b) (not_less d s)
    go false = refl
not_before value.Uncertain d = refl
not_before (value.Bool _) d = refl
not_before (value.Num _) d = refl
not_before (value.Words _) d = refl
