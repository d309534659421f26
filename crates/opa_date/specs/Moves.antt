-- Days so many days, months or years away.
use Rattle.std.specs.Prelude.{ℕ, zero, suc, ◌+◌, ◌-◌, ◌≤◌, ◌&&◌, min, nat_le, if◌then◌else◌, Option, Some, None, ℤ, pos, ◌+ℤ◌, ◌*ℤ◌, int_le, int_lt, unsigned_abs}
use Rattle.std.specs.Int.{int_div_euclid, int_rem_euclid}
use Rattle.opa_date.specs.declared.TheConstants.{DAYS}
use Rattle.opa_date.specs.Gregorian.{Date, days_in_month, date_of, day_number, is_calendar_year}

-- the date that many months later in the calendar of all years: the same day of that month, or its last day
abbrev pub months_later : Date → ℤ → Date
months_later p k =
    let months = p.year *ℤ pos 12 +ℤ pos (p.month - 1) +ℤ k in
    let year = int_div_euclid months (pos 12) in
    let month = unsigned_abs (int_rem_euclid months (pos 12)) + 1 in
    record { year = year; month = month; day = min p.day (days_in_month year month) }

-- the day of a date, if it is one of the years 1600 to 2399
abbrev pub day_of : Date → Option ℕ
day_of p = if is_calendar_year p.year then Some (day_number p) else None

-- a number of days since 1600-01-01, if it is a day of the calendar
abbrev pub in_calendar : ℤ → Option ℕ
in_calendar z = if int_le (pos 0) z && int_lt z (pos DAYS) then Some (unsigned_abs z) else None

abbrev pub add_days : ℕ → ℤ → Option ℕ
add_days n k = in_calendar (pos n +ℤ k)

unfoldable pub add_months : ℕ → ℤ → Option ℕ
add_months n k = day_of (months_later (date_of n) k)

abbrev pub add_years : ℕ → ℤ → Option ℕ
add_years n k = add_months n (k *ℤ pos 12)

-- the day k years later in the calendar of all years, which may lie past the calendar's end
unfoldable pub years_later : ℕ → ℕ → ℕ
years_later n k = day_number (months_later (date_of n) (pos k *ℤ pos 12))

-- k is the greatest number of years from the first day that the last one reaches
pub record IsYearsBetween (first last k : ℕ) : Type 0 where
  pub reaches : years_later first k ≤ last
  pub greatest : (j : ℕ) → years_later first j ≤ last → j ≤ k

-- the greatest number of years up to a bound that the last day reaches
unfoldable pub years_up_to : ℕ → ℕ → ℕ → ℕ
years_up_to first last zero = 0
years_up_to first last (suc k) = if nat_le (years_later first (suc k)) last then suc k else years_up_to first last k

-- the whole years from a day to another, if that isn't earlier; no two days lie 800 years apart
abbrev pub years_between : ℕ → ℕ → Option ℕ
years_between first last = if nat_le first last then Some (years_up_to first last 800) else None
