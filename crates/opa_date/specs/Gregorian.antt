-- The Gregorian calendar of all years, and its days by number: day 0 is 1 January 1600.
use Rattle.std.specs.Prelude.{ℕ, zero, suc, ◌+◌, ◌-◌, ◌%◌, ◌==◌, ◌&&◌, ◌||◌, Bool, not, nat_lt, if◌then◌else◌, ℤ, pos, ◌+ℤ◌, ◌-ℤ◌, ◌≤ℤ◌, int_le, unsigned_abs}
use Rattle.std.specs.Int.{IsInRange}

-- a year, a month from 1 to 12, and a day of the month from 1; the year before 1 is 0
pub record Date : Type 0 where
  pub year : ℤ
  pub month : ℕ
  pub day : ℕ

-- the number divides the year
abbrev pub divides : ℕ → ℤ → Bool
divides n y = unsigned_abs y % n == 0

-- every fourth year, but of the hundredth ones only every fourth
abbrev pub is_leap_year : ℤ → Bool
is_leap_year y = divides 4 y && (not (divides 100 y) || divides 400 y)

abbrev pub days_in_year : ℤ → ℕ
days_in_year y = if is_leap_year y then 366 else 365

-- thirty days have April, June, September and November
abbrev pub days_in_month : ℤ → ℕ → ℕ
days_in_month y m =
    if m == 2 then (if is_leap_year y then 29 else 28)
    else (if (m == 4) || (m == 6) || (m == 9) || (m == 11) then 30 else 31)

-- the calendar has this date
pub record IsDate (p : Date) : Type 0 where
  pub month_in : IsInRange 1 12 p.month
  pub day_in : IsInRange 1 (days_in_month p.year p.month) p.day

-- the next date
abbrev pub tomorrow : Date → Date
tomorrow p =
    if nat_lt p.day (days_in_month p.year p.month) then record { year = p.year; month = p.month; day = p.day + 1 }
    else if nat_lt p.month 12 then record { year = p.year; month = p.month + 1; day = 1 }
    else record { year = p.year +ℤ pos 1; month = 1; day = 1 }

-- the date of a day: day 0 is 1600-01-01, and each further day is the next date
unfoldable pub date_of : ℕ → Date
date_of zero = record { year = pos 1600; month = 1; day = 1 }
date_of (suc n) = tomorrow (date_of n)

-- the days of the first n years from 1600 on
unfoldable pub days_of_years : ℕ → ℕ
days_of_years zero = 0
days_of_years (suc n) = days_of_years n + days_in_year (pos (1600 + n))

-- the days of the first n months of a year
unfoldable pub days_of_months : ℤ → ℕ → ℕ
days_of_months y zero = 0
days_of_months y (suc n) = days_of_months y n + days_in_month y (suc n)

-- the day of a date from 1600 on: the days of the years, of the months and of the month that lie before it
unfoldable pub day_number : Date → ℕ
day_number p = days_of_years (unsigned_abs (p.year -ℤ pos 1600)) + days_of_months p.year (p.month - 1) + (p.day - 1)

-- the years whose days have a number below `DAYS`
abbrev pub is_calendar_year : ℤ → Bool
is_calendar_year y = int_le (pos 1600) y && int_le y (pos 2399)

-- the same as a fact
abbrev pub IsCalendarYear : ℤ → Type 0
IsCalendarYear y = (pos 1600 ≤ℤ y) × (y ≤ℤ pos 2399)
