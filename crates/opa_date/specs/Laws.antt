-- What holds of the calendar's days.
use Rattle.std.specs.Prelude.{◌≡◌, ◌<◌, ◌≤ℤ◌, ℕ, nat_lt, if◌then◌else◌, List, Some, None, Ok, ℤ, pos, ◌-ℤ◌}
use Rattle.jiff_core.specs.Calendar as jiff
use Rattle.opa_date.specs.declared.TheConstants.{DAYS}
use Rattle.opa_date.specs.Gregorian.{Date, IsDate, IsCalendarYear, is_leap_year, days_in_month, date_of, day_number}
use Rattle.opa_date.specs.Moves.{add_years, years_later}
use Rattle.opa_date.specs.Texts.{read_day, day_text}

-- each day has a date of the years 1600 to 2399, and its number is that day
abbrev pub DaysHaveDates : Type 0
DaysHaveDates = (n : ℕ) → n < DAYS → IsDate (date_of n) × IsCalendarYear (date_of n).year × (day_number (date_of n) ≡ n)

-- each date of the years 1600 to 2399 has a day, and it is the date of that day
abbrev pub DatesHaveDays : Type 0
DatesHaveDays = (p : Date) → IsDate p → IsCalendarYear p.year → (day_number p < DAYS) × (date_of (day_number p) ≡ p)

-- leap years, lengths of months and distances of dates are those of `jiff`, which counts days from 1970-01-01
pub record AgreesWithJiff : Type 0 where
  pub leap_years : (y : ℤ) → is_leap_year y ≡ jiff.is_leap_year y
  pub lengths : (y : ℤ) (m : ℕ) → days_in_month y m ≡ jiff.days_in_month y m
  pub days : (p : Date) → IsDate p → pos 1600 ≤ℤ p.year → jiff.days_from_civil p.year p.month p.day ≡ pos (day_number p) -ℤ pos 135_140

-- the text of a day is read as that day
abbrev pub TextsAreRead : Type 0
TextsAreRead = (n : ℕ) → n < DAYS → read_day (day_text n) ≡ Ok n

-- a text that is read as a day is the text of that day
abbrev pub OnlyTextsAreRead : Type 0
OnlyTextsAreRead = (t : List ℕ) (n : ℕ) → read_day t ≡ Ok n → (n < DAYS) × (t ≡ day_text n)

-- adding k years gives the day k years later, if that is a day of the calendar
abbrev pub YearsAreAdded : Type 0
YearsAreAdded = (n k : ℕ) → n < DAYS → add_years n (pos k) ≡ (if nat_lt (years_later n k) DAYS then Some (years_later n k) else None)

-- the day more years later is a later day
abbrev pub YearsRise : Type 0
YearsRise = (n j k : ℕ) → n < DAYS → j < k → years_later n j < years_later n k
