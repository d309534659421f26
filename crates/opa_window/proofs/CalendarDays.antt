-- The functions over time read days of the calendar alone.
use Rattle.std.proofs.Common.{◌≡◌, ℕ, ◌+◌, ◌-◌, ◌<◌, ◌≤◌, Bool, true, false, List, [], ◌∷◌, refl, ap, arith}
use Rattle.std.specs.Prelude.{nat_lt, ◌&&◌, if◌then◌else◌}
use Rattle.opa_date.specs.declared.TheConstants.{DAYS}
use Rattle.opa_value.specs.declared.value.Value.{Value}
use Rattle.opa_value.specs.declared.value.Value.TheVariants as value
use Rattle.opa_value.specs.Truth.{all_of, any_of, unless_open}
use Rattle.opa_window.specs.Days.{over_days, last_days}
use Rattle.opa_window.specs.Laws.{ReadsTheCalendar}
use Rattle.opa_window.specs.Windows.{on_date, on_dates}
use Rattle.opa_window.proofs.Spreading.{same_days}

module _ (x y : ℕ → Value) (same : (d : ℕ) → d < DAYS → x d ≡ y d) where
  over_same : (s t : ℕ) → t ≤ DAYS → over_days x s t ≡ over_days y s t
  over_same s t le = same_days x y s (t - s) (λ d from below. same d (omega arith))

  last_same : (n d : ℕ) → d < DAYS → last_days n x d ≡ last_days n y d
  last_same n d lt = over_same (d + 1 - n) (d + 1) (omega arith)

  date_same : (date : Value) → on_date x date ≡ on_date y date
  date_same (value.Day s) = go (nat_lt s DAYS) refl
    where
      go : (a : Bool) → nat_lt s DAYS ≡ a → (if a then x s else value.Uncertain) ≡ (if a then y s else value.Uncertain)
      go true e = same s (grind (arith, e))
      go false e = refl
  date_same value.Unknown = refl
  date_same value.Uncertain = refl
  date_same (value.Bool _) = refl
  date_same (value.Num _) = refl
  date_same (value.Words _) = refl

  dates_same : (fold : List Value → Value) (start end : Value) → on_dates (λ s t. fold (over_days x s t)) start end ≡ on_dates (λ s t. fold (over_days y s t)) start end
  dates_same fold (value.Day s) (value.Day t) = go (nat_lt s DAYS) (nat_lt t DAYS) refl
    where
      go : (a b : Bool) → nat_lt t DAYS ≡ b → (if a && b then fold (over_days x s t) else value.Uncertain) ≡ (if a && b then fold (over_days y s t) else value.Uncertain)
      go true true e = ap fold (over_same s t (grind (arith, e)))
      go true false e = refl
      go false b e = refl
  dates_same fold (value.Day s) value.Unknown = refl
  dates_same fold (value.Day s) value.Uncertain = refl
  dates_same fold (value.Day s) (value.Bool _) = refl
  dates_same fold (value.Day s) (value.Num _) = refl
  dates_same fold (value.Day s) (value.Words _) = refl
  dates_same fold value.Unknown end = refl
  dates_same fold value.Uncertain end = refl
  dates_same fold (value.Bool _) end = refl
  dates_same fold (value.Num _) end = refl
  dates_same fold (value.Words _) end = refl

pub reads_the_calendar : ReadsTheCalendar
reads_the_calendar = record {
  windows = λ fold x y same start end. ap (unless_open (start ∷ end ∷ [])) (dates_same x y same fold start end);
  dates = λ x y same date. ap (unless_open (date ∷ [])) (date_same x y same date);
  rolling_all = λ n x y same d lt. ap all_of (last_same x y same n d lt);
  rolling_any = λ n x y same d lt. ap any_of (last_same x y same n d lt);
}
