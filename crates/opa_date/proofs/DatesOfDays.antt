-- Days and dates lead to one another.
use Rattle.std.proofs.Common.{◌≡◌, ◌⊎◌, ℕ, zero, suc, ◌+◌, ◌<◌, Bool, true, false, nat_lt, refl, arith, ℤ, pos, neg_ℤ, ◌+ℤ◌, ◌<ℤ◌, ◌≤ℤ◌, if◌then◌else◌}
use Rattle.std.proofs.lemmas.Bool.{ltb-false, ltb-true}
use Rattle.std.proofs.lemmas.Int.{by_lt_z}
use Rattle.jiff_core.specs.Calendar.{days_from_civil, days_in_month, IsCivilDate}
use Rattle.jiff_core.specs.Date.{epoch_day}
use Rattle.jiff_core.specs.declared.civil.date.Date as plain_dates
use Rattle.jiff_core.proofs.CalendarLemmas.{day_count-epoch, days_in_month_bounds}
use Rattle.jiff_core.proofs.MarchLemmas.{day_count-early, day_count-late}
use Rattle.jiff_core.proofs.DateLemmas.{days_from_civil-day, days_from_civil-next_month, days_from_civil-next_year, epoch_day_injective}
use Rattle.jiff_core.proofs.SignedLemmas.{signed_arith}
use Rattle.jiff_span.proofs.MonthLemmas.{days_from_civil-month}
use Rattle.opa_date.specs.Gregorian.{Date, IsCalendarYear, is_calendar_year, tomorrow, date_of}
use Rattle.opa_date.proofs.Numbers.{jiff_number}

-- the ends of the calendar, and the days round it
first_day : days_from_civil (pos 1600) 1 1 ≡ neg_ℤ (pos 135_140)
unfolding days_from_civil
first_day = rw (day_count-epoch, day_count-early (pos 1600) 11599 1 1 refl (omega arith) (omega arith) (omega arith)) refl

day_before : days_from_civil (pos 1599) 12 31 ≡ neg_ℤ (pos 135_141)
unfolding days_from_civil
day_before = rw (day_count-epoch, day_count-late (pos 1599) 11599 12 31 refl (omega arith) (omega arith) (omega arith)) refl

last_day : days_from_civil (pos 2399) 12 31 ≡ pos 157_053
unfolding days_from_civil
last_day = rw (day_count-epoch, day_count-late (pos 2399) 12399 12 31 refl (omega arith) (omega arith) (omega arith)) refl

pub day_after : days_from_civil (pos 2400) 1 1 ≡ pos 157_054
unfolding days_from_civil
day_after = rw (day_count-epoch, day_count-early (pos 2400) 12399 1 1 refl (omega arith) (omega arith) (omega arith)) refl

abbrev pub IsCivil : Date → Type 0
IsCivil p = IsCivilDate p.year p.month p.day

-- the date has that day
abbrev pub IsDateOf : ℕ → Date → Type 0
IsDateOf n p = IsCivil p × (jiff_number p ≡ pos n)

-- a date of the calendar's years has one of its days
pub day_in : (p : Date) → IsCivil p → IsCalendarYear p.year → (pos 0 ≤ℤ jiff_number p) × (jiff_number p <ℤ pos 292_194)
day_in p h y =
    let low = days_from_civil-month (pos 1599) p.year 12 p.month 31 p.day ((omega (arith, signed_arith), omega (arith, signed_arith)), (omega arith, omega arith), (omega arith, omega arith)) h.1.0 h.1.1 h.2.0 (omega (arith, signed_arith)) in
    let high = days_from_civil-month p.year (pos 2400) p.month 1 p.day 1 h (omega arith) (omega arith) (omega arith) (omega (arith, signed_arith)) in
    (omega (arith, signed_arith, day_before, low), omega (arith, signed_arith, day_after, high))

-- and a date with one of its days is of its years
pub year_in : (p : Date) → IsCivil p → pos 0 ≤ℤ jiff_number p → jiff_number p <ℤ pos 292_194 → IsCalendarYear p.year
year_in p h low high = (
  by_lt_z p.year (pos 1600)
      (λ early. absurd (omega (arith, signed_arith, first_day, low, days_from_civil-month p.year (pos 1600) p.month 1 p.day 1 h (omega arith) (omega arith) (omega arith) (omega (arith, signed_arith)))))
      (λ ge. ge),
  by_lt_z (pos 2399) p.year
      (λ late. absurd (omega (arith, signed_arith, last_day, high, days_from_civil-month (pos 2399) p.year 12 p.month 31 p.day ((omega (arith, signed_arith), omega (arith, signed_arith)), (omega arith, omega arith), (omega arith, omega arith)) h.1.0 h.1.1 h.2.0 (omega (arith, signed_arith)))))
      (λ le. le),
)

-- the next date is one day later
module _ (n : ℕ) (p : Date) (h : IsDateOf n p) (early : p.year <ℤ pos 9999) where
  by_cases : (b c : Bool) → nat_lt p.day (days_in_month p.year p.month) ≡ b → nat_lt p.month 12 ≡ c
      → IsDateOf (suc n) (if b then record { year = p.year; month = p.month; day = p.day + 1 }
      else if c then record { year = p.year; month = p.month + 1; day = 1 }
      else record { year = p.year +ℤ pos 1; month = 1; day = 1 })
  by_cases true c e f =
      let next = days_from_civil-day p.year p.month p.day (p.day + 1) h.0.2.0 (omega arith) in (
        (h.0.0, h.0.1, (omega arith, omega (arith, ltb-true _ _ e))),
        omega (arith, signed_arith, next, h.1),
      )
  by_cases false true e f =
      let long : p.day ≡ days_in_month p.year p.month = omega (arith, ltb-false _ _ e, h.0.2.1) in
      let next = days_from_civil-next_month p.year p.month p.day h.0.1.0 long in
      let bounds = days_in_month_bounds p.year (p.month + 1) in (
        (h.0.0, (omega arith, omega (arith, ltb-true _ _ f)), (omega arith, omega (arith, bounds.1))),
        omega (arith, signed_arith, next, h.1),
      )
  by_cases false false e f =
      let december : p.month ≡ 12 = omega (arith, ltb-false _ _ f, h.0.1.1) in
      let long : p.day ≡ 31 = omega (arith, ltb-false _ _ (rw december at e), rw december at h.0.2.1) in
      let next = days_from_civil-next_year p.year (p.year +ℤ pos 1) (omega (arith, signed_arith, h.0.0.0)) refl in (
        ((omega (arith, signed_arith, h.0.0.0), omega (arith, signed_arith, early)), (omega arith, omega arith), (omega arith, omega arith)),
        omega (arith, signed_arith, next, rw (december, long) at h.1),
      )

  tomorrow-is : IsDateOf (suc n) (tomorrow p)
  tomorrow-is = by_cases (nat_lt p.day (days_in_month p.year p.month)) (nat_lt p.month 12) refl refl

-- each day has its date
pub date_of-is : (n : ℕ) → n < 292_194 → IsDateOf n (date_of n)
unfolding date_of
date_of-is zero h =
    (((omega (arith, signed_arith), omega (arith, signed_arith)), (omega arith, omega arith), (omega arith, omega arith)), rw first_day refl)
date_of-is (suc n) h =
    let before = date_of-is n (omega arith) in
    let year = year_in (date_of n) before.0 (rw before.1 (omega (arith, signed_arith))) (rw before.1 (omega (arith, signed_arith))) in
    tomorrow-is n (date_of n) before (omega (arith, signed_arith, year.1))

-- a date as `jiff` has it
abbrev pub plain : (p : Date) → IsCivil p → plain_dates.Date
plain p h = record { year = p.year; month = p.month; day = p.day; year_in = h.0; month_in = h.1; day_in = h.2 }

-- the date of a day is the one with its number
pub parts_are : (d : plain_dates.Date) (n : ℕ) → n < 292_194 → epoch_day d +ℤ pos 135_140 ≡ pos n
    → (d.year ≡ (date_of n).year) × (d.month ≡ (date_of n).month) × (d.day ≡ (date_of n).day)
parts_are d n h e =
    let own = date_of-is n h in
    epoch_day_injective d (plain (date_of n) own.0) (omega (arith, signed_arith, e, own.1))

pub date_of-year : (n : ℕ) → n < 292_194 → IsCalendarYear (date_of n).year
date_of-year n h =
    let own = date_of-is n h in
    year_in (date_of n) own.0 (rw own.1 (omega (arith, signed_arith))) (rw own.1 (omega (arith, signed_arith)))

pub is_calendar_year-true : (y : ℤ) → IsCalendarYear y → is_calendar_year y ≡ true
is_calendar_year-true y h = grind (arith, signed_arith)

pub is_calendar_year-false : (y : ℤ) → (y <ℤ pos 1600) ⊎ (pos 2399 <ℤ y) → is_calendar_year y ≡ false
is_calendar_year-false y h = grind (arith, signed_arith)
