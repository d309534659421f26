-- Days so many months away, by `jiff` and by the calendar's definition.
use Rattle.std.proofs.Common.{◌≡◌, ◌⊎◌, inl, inr, ℕ, ◌≤◌, ◌<◌, Some, None, refl, sym, ap, ◌∙◌, subst, arith, ℤ, pos, neg_ℤ, ◌+ℤ◌, ◌<ℤ◌, ◌≤ℤ◌}
use Rattle.jiff_core.specs.Calendar.{days_from_civil}
use Rattle.jiff_core.specs.Date.{epoch_day}
use Rattle.jiff_core.specs.declared.civil.date.Date as plain_dates
use Rattle.jiff_core.proofs.CalendarLemmas.{days_in_month_bounds}
use Rattle.jiff_core.proofs.SignedLemmas.{signed_arith}
use Rattle.jiff_span.specs.Months as jiff
use Rattle.jiff_span.proofs.MonthLemmas.{shift_parts}
use Rattle.opa_date.specs.Gregorian.{Date, IsCalendarYear, date_of, day_number}
use Rattle.opa_date.specs.Moves.{day_of, months_later, add_months}
use Rattle.opa_date.proofs.Numbers.{number-jiff}
use Rattle.opa_date.proofs.DatesOfDays.{date_of-is, date_of-year, is_calendar_year-true, is_calendar_year-false}

-- the date is that of the day
abbrev pub IsPlain : plain_dates.Date → ℕ → Type 0
IsPlain d n = (d.year ≡ (date_of n).year) × (d.month ≡ (date_of n).month) × (d.day ≡ (date_of n).day)

abbrev pub IsOutside : ℤ → Type 0
IsOutside y = (y <ℤ pos 1600) ⊎ (pos 2399 <ℤ y)

pub day_of-some : (p : Date) → IsCalendarYear p.year → day_of p ≡ Some (day_number p)
day_of-some p h = rw (is_calendar_year-true p.year h) refl

pub day_of-none : (p : Date) → IsOutside p.year → day_of p ≡ None
day_of-none p h = rw (is_calendar_year-false p.year h) refl

-- the definition's shift is that of `jiff`
shifted : (d : plain_dates.Date) (n : ℕ) (k : ℤ) → IsPlain d n
    → (jiff.shifted_year d k ≡ (months_later (date_of n) k).year) × (jiff.shifted_month d k ≡ (months_later (date_of n) k).month) × (jiff.add_months d k ≡ days_from_civil (months_later (date_of n) k).year (months_later (date_of n) k).month (months_later (date_of n) k).day)
shifted d n k (year, month, day) = rw (year, month, day) (refl, refl, refl)

-- more than 10,000 months away lies no day of the calendar
pub far : (n : ℕ) (k : ℤ) → n < 292_194 → (k <ℤ neg_ℤ (pos 10_000)) ⊎ (pos 10_000 <ℤ k) → add_months n k ≡ None
unfolding add_months
far n k h (inl low) =
    day_of-none (months_later (date_of n) k) (inl (omega (arith, signed_arith, low, date_of-year n h, (date_of-is n h).0.1)))
far n k h (inr high) =
    day_of-none (months_later (date_of n) k) (inr (omega (arith, signed_arith, high, date_of-year n h, (date_of-is n h).0.1)))

-- a date some months later has a day of the month
pub later_day : (n : ℕ) (k : ℤ) → n < 292_194 → 1 ≤ (months_later (date_of n) k).day
later_day n k h =
    let q = months_later (date_of n) k in
    omega (arith, (date_of-is n h).0.2.0, (days_in_month_bounds q.year q.month).1)

module _ (d : plain_dates.Date) (n : ℕ) (k : ℤ) (plain : IsPlain d n) (within : n < 292_194) where
  module _ (later : plain_dates.Date) (value : epoch_day later ≡ jiff.add_months d k) (month : jiff.month_number later ≡ jiff.month_number d +ℤ k) where
    pub year_is : (months_later (date_of n) k).year ≡ later.year
    year_is = sym (shifted d n k plain).0 ∙ (shift_parts d k later.year later.month (sym month) later.month_in.0 later.month_in.1).0

    pub number_is : pos 1600 ≤ℤ later.year → pos (day_number (months_later (date_of n) k)) ≡ epoch_day later +ℤ pos 135_140
    number_is late =
        number-jiff (months_later (date_of n) k) (subst (λ (y : ℤ). pos 1600 ≤ℤ y) (sym year_is) late) (later_day n k within)
        ∙ ap (λ z. z +ℤ pos 135_140) (sym (value ∙ (shifted d n k plain).2))

    pub reached : (r : ℕ) → IsCalendarYear later.year → r ≡ day_number (record { year = later.year; month = later.month; day = later.day }) → add_months n k ≡ Some r
    unfolding add_months
    reached r inside e =
        let own = number-jiff (record { year = later.year; month = later.month; day = later.day }) inside.0 later.day_in.0 in
        let same : day_number (months_later (date_of n) k) ≡ r = omega (arith, signed_arith, own, e, number_is inside.0) in
        day_of-some (months_later (date_of n) k) (subst (λ (y : ℤ). IsCalendarYear y) (sym year_is) inside) ∙ ap Some same

    pub left : IsOutside later.year → add_months n k ≡ None
    unfolding add_months
    left outside = day_of-none (months_later (date_of n) k) (subst (λ (y : ℤ). IsOutside y) (sym year_is) outside)
