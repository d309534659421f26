-- The days of dates are those of `jiff`, which counts them from 1970-01-01.
use Rattle.std.proofs.Common.{◌≡◌, ℕ, zero, suc, ◌+◌, ◌-◌, ◌≤◌, refl, ap, arith, ℤ, pos, ◌+ℤ◌, ◌-ℤ◌, ◌≤ℤ◌, unsigned_abs}
use Rattle.jiff_core.specs.Calendar as jiff
use Rattle.jiff_core.proofs.CalendarLemmas.{days_from_civil-day_count}
use Rattle.jiff_core.proofs.MarchLemmas.{leap_day-shift, days_in_year-leap_day, days_of_years-suc, day_count-early}
use Rattle.jiff_core.proofs.SignedLemmas.{signed_arith, one_part}
use Rattle.opa_date.specs.Gregorian.{Date, days_in_month, days_of_years, days_of_months, day_number}

-- the day of a date by `jiff`, over its years
abbrev pub jiff_number : Date → ℤ
jiff_number p = jiff.days_from_civil p.year p.month p.day +ℤ pos 135_140

pub months_same : (y : ℤ) (n : ℕ) → days_of_months y n ≡ jiff.days_of_months y n
unfolding days_of_months jiff.days_of_months
months_same y zero = refl
months_same y (suc n) = ap (λ (k : ℕ). k + days_in_month y (suc n)) (months_same y n)

years_same : (n : ℕ) → jiff.days_of_years (11_600 + n) ≡ jiff.days_of_years 11_600 + days_of_years n
unfolding days_of_years
years_same zero = omega arith
years_same (suc n) =
    let next : 11_600 + suc n ≡ suc (11_600 + n) = omega arith in
    rw next (omega (arith, years_same n, days_of_years-suc (11_600 + n), days_in_year-leap_day (pos (1600 + n)), leap_day-shift (pos (1600 + n)) (11_600 + n) (omega (arith, signed_arith))))

first_year : jiff.days_of_years 11_600 ≡ 4_236_813
unfolding jiff.day_count jiff.days_of_months
first_year =
    let first : jiff.day_count (pos 1600) 1 1 ≡ 4_236_813 = day_count-early (pos 1600) 11_599 1 1 refl (omega arith) (omega arith) (omega arith) in
    omega (arith, first)

counted : (p : Date) → pos 1600 ≤ℤ p.year → 1 ≤ p.day → jiff.day_count p.year p.month p.day ≡ 4_236_813 + day_number p
unfolding jiff.day_count day_number
counted p late first =
    let years : unsigned_abs (p.year +ℤ pos 10_000) ≡ 11_600 + unsigned_abs (p.year -ℤ pos 1600) =
    grind (arith, signed_arith, one_part (p.year +ℤ pos 10_000), one_part (p.year -ℤ pos 1600)) in
    rw (years, years_same (unsigned_abs (p.year -ℤ pos 1600)), first_year) (omega (arith, months_same p.year (p.month - 1)))

pub number-jiff : (p : Date) → pos 1600 ≤ℤ p.year → 1 ≤ p.day → pos (day_number p) ≡ jiff_number p
number-jiff p late first =
    omega (arith, signed_arith, counted p late first, days_from_civil-day_count p.year p.month p.day)
