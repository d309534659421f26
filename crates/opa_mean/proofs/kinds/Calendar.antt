-- Days that are moved stay in the calendar.
use Rattle.std.proofs.Common.{◌≡◌, ℕ, ◌-◌, ◌<◌, ◌≤◌, Bool, true, false, cond, Option, None, Some, refl, arith, ℤ, pos, negsuc, ◌+ℤ◌, ◌*ℤ◌}
use Rattle.std.specs.Prelude.{int_le, int_lt, ◌&&◌, unsigned_abs}
use Rattle.std.specs.Int.{int_rem_euclid}
use Rattle.std.proofs.lemmas.Bool.{and_parts, lt-ltb}
use Rattle.opa_date.specs.declared.TheConstants.{DAYS}
use Rattle.opa_date.specs.Gregorian.{Date, IsDate, IsCalendarYear, is_calendar_year, days_in_month, date_of, day_number}
use Rattle.opa_date.specs.Moves.{months_later, day_of, in_calendar, add_days, add_months}
use Rattle.opa_date.proofs.CalendarLaws.{days_have_dates, dates_have_days}
use Rattle.opa_model.specs.declared.things.Kind.TheVariants as kind
use Rattle.opa_case.specs.Steps.{has_kind}
use Rattle.opa_mean.specs.Operations.{day_or_not}

-- a day, if there is one, is one of the calendar
abbrev pub IsDay : Option ℕ → Type 0
IsDay o = has_kind kind.Date (day_or_not o) ≡ true

abs_below : (z : ℤ) (n : ℕ) → int_le (pos 0) z ≡ true → int_lt z (pos n) ≡ true → unsigned_abs z < n
abs_below z n low high = grind (arith, low, high)

in_calendar_is : (z : ℤ) → IsDay (in_calendar z)
in_calendar_is z = go (int_le (pos 0) z && int_lt z (pos DAYS)) refl
  where
    go : (b : Bool) → (int_le (pos 0) z && int_lt z (pos DAYS)) ≡ b → IsDay (cond b (Some (unsigned_abs z)) None)
    go false e = refl
    go true e = let both = and_parts _ _ e in lt-ltb (unsigned_abs z) DAYS (abs_below z DAYS both.0 both.1)

pub days_added : (n : ℕ) (k : ℤ) → IsDay (add_days n k)
days_added n k = in_calendar_is (pos n +ℤ k)

year_is : (y : ℤ) → is_calendar_year y ≡ true → IsCalendarYear y
year_is y e = let both = and_parts (int_le (pos 1600) y) (int_le y (pos 2399)) e in (grind (arith, both.0), grind (arith, both.1))

rem_below : (z : ℤ) → unsigned_abs (int_rem_euclid z (pos 12)) < 12
rem_below (pos n) = omega arith
rem_below (negsuc n) = omega arith

some_days : (y : ℤ) (m : ℕ) → 1 ≤ days_in_month y m
some_days y m = grind arith

later_is : (n : ℕ) (k : ℤ) → n < DAYS → IsDate (months_later (date_of n) k)
later_is n k lt =
    let own = days_have_dates n lt in
    let q = months_later (date_of n) k in
    let month = rem_below ((date_of n).year *ℤ pos 12 +ℤ pos ((date_of n).month - 1) +ℤ k) in
    let days = some_days q.year q.month in
    record { month_in = (omega arith, omega (arith, month)); day_in = (omega (arith, own.0.day_in, days), omega arith) }

day_of_is : (p : Date) → IsDate p → IsDay (day_of p)
day_of_is p is = go (is_calendar_year p.year) refl
  where
    go : (b : Bool) → is_calendar_year p.year ≡ b → IsDay (cond b (Some (day_number p)) None)
    go false e = refl
    go true e = lt-ltb (day_number p) DAYS (dates_have_days p is (year_is p.year e)).0

pub months_added : (n : ℕ) (k : ℤ) → n < DAYS → IsDay (add_months n k)
unfolding add_months
months_added n k lt = day_of_is (months_later (date_of n) k) (later_is n k lt)
