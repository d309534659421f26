-- The days of a date's anniversaries.
use Rattle.std.proofs.Common.{◌≡◌, ℕ, zero, suc, ◌+◌, ◌-◌, ◌<◌, ◌≤◌, nat_lt, if◌then◌else◌, Some, None, inr, refl, sym, ap, ◌∙◌, arith, ℤ, pos, ◌-ℤ◌, unsigned_abs}
use Rattle.std.proofs.lemmas.Bool.{lt-ltb, le-ltb}
use Rattle.std.proofs.lemmas.Int.{by_lt_z}
use Rattle.jiff_core.proofs.CalendarLemmas.{days_in_month_bounds, day_of_year_before, days_of_months_all}
use Rattle.jiff_core.proofs.SignedLemmas.{signed_arith, one_part}
use Rattle.opa_date.specs.Gregorian.{Date, IsDate, IsCalendarYear, days_in_year, days_of_years, days_of_months, date_of, day_number}
use Rattle.opa_date.specs.Moves.{day_of, add_months, add_years, years_later}
use Rattle.opa_date.proofs.Numbers.{months_same, number-jiff}
use Rattle.opa_date.proofs.DatesOfDays.{date_of-is, date_of-year, day_after}
use Rattle.opa_date.proofs.CalendarLaws.{dates_have_days}
use Rattle.opa_date.proofs.Months.{day_of-some, day_of-none}
use Rattle.opa_date.proofs.YearsApart.{anniversary, months-anniversary, later-anniversary}

more_years : (n k : ℕ) → days_of_years n ≤ days_of_years (k + n)
unfolding days_of_years
more_years n zero = let e : 0 + n ≡ n = omega arith in rw e (omega arith)
more_years n (suc k) = let e : suc k + n ≡ suc (k + n) = omega arith in rw e (omega (arith, more_years n k))

years_up : (n m : ℕ) → n ≤ m → days_of_years n ≤ days_of_years m
years_up n m le = let e : m - n + n ≡ m = omega arith in rw e at (more_years n (m - n))

one_year : (n : ℕ) → days_of_years (suc n) ≡ days_of_years n + days_in_year (pos (1600 + n))
unfolding days_of_years
one_year n = refl

years_count : (y : ℤ) (n : ℕ) → y ≡ pos (1600 + n) → unsigned_abs (y -ℤ pos 1600) ≡ n
years_count y n is = grind (arith, signed_arith, is, one_part (y -ℤ pos 1600))

-- a date lies before the end of its year
within_year : (p : Date) (n : ℕ) → p.year ≡ pos (1600 + n) → IsDate p → day_number p < days_of_years (suc n)
unfolding day_number
within_year p n is h =
    let length : days_in_year (pos (1600 + n)) ≡ days_in_year p.year = ap days_in_year (sym is) in
    rw (years_count p.year n is, one_year n, length) (omega (arith, months_same p.year (p.month - 1), day_of_year_before p.year p.month p.day 12 h.month_in.0 h.day_in.1 h.month_in.1, days_of_months_all p.year, h.day_in.0))

after_years : (p : Date) (n : ℕ) → p.year ≡ pos (1600 + n) → days_of_years n ≤ day_number p
unfolding day_number
after_years p n is = rw (years_count p.year n is) (omega arith)

-- the years of a day from 1600 on
years_of : (n : ℕ) → n < 292_194 → (k : ℕ) × ((date_of n).year ≡ pos (1600 + k))
years_of n h =
    let year = date_of-year n h in
    (unsigned_abs ((date_of n).year -ℤ pos 1600), grind (arith, signed_arith, year, one_part ((date_of n).year -ℤ pos 1600)))

is_date : (n j : ℕ) → n < 292_194 → IsDate (anniversary n j)
is_date n j h =
    let q = anniversary n j in
    let own = (date_of-is n h).0 in
    record { month_in = own.1; day_in = (omega (arith, own.2.0, (days_in_month_bounds q.year q.month).1), omega arith) }

pub years_rise : (n j k : ℕ) → n < 292_194 → j < k → years_later n j < years_later n k
years_rise n j k h lt =
    let start = years_of n h in
    let first = within_year (anniversary n j) (start.0 + j) (omega (arith, signed_arith, start.1)) (is_date n j h) in
    let last = after_years (anniversary n k) (start.0 + k) (omega (arith, signed_arith, start.1)) in
    omega (arith, first, last, years_up (suc (start.0 + j)) (start.0 + k) (omega arith), later-anniversary n j h, later-anniversary n k h)

-- the years 1600 to 2399 have the calendar's days
eight_hundred : days_of_years 800 ≡ 292_194
unfolding day_number days_of_months
eight_hundred =
    let p : Date = record { year = pos 2400; month = 1; day = 1 } in
    omega (arith, signed_arith, number-jiff p (omega (arith, signed_arith)) (omega arith), day_after)

pub years_are_added : (n k : ℕ) → n < 292_194 → add_years n (pos k) ≡ (if nat_lt (years_later n k) 292_194 then Some (years_later n k) else None)
unfolding add_months
years_are_added n k h =
    let q = anniversary n k in
    let start = years_of n h in
    let later = later-anniversary n k h in
    let day = ap day_of (months-anniversary n k h) in
    by_lt_z (pos 2399) q.year
    (λ late.
    let last = after_years q (start.0 + k) (omega (arith, signed_arith, start.1)) in
    let past : 292_194 ≤ years_later n k = omega (arith, signed_arith, later, last, start.1, late, years_up 800 (start.0 + k) (omega (arith, signed_arith, start.1, late)), eight_hundred) in
    day ∙ day_of-none q (inr late) ∙ sym (rw (le-ltb _ _ past) refl))
    (λ within.
    let inside : IsCalendarYear q.year = (omega (arith, signed_arith, start.1), within) in
    let own = dates_have_days q (is_date n k h) inside in
    let small : years_later n k < 292_194 = omega (arith, later, own.0) in
    day ∙ day_of-some q inside ∙ ap Some (sym later) ∙ sym (rw (lt-ltb _ _ small) refl))
