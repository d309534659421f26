-- Days as texts.
use Rattle.std.specs.Prelude.{◌≡◌, ℕ, ◌+◌, ◌-◌, ◌*◌, ◌/◌, ◌%◌, ◌&&◌, ◌==◌, Bool, not, nat_le, if◌then◌else◌, List, [], ◌∷◌, length, slice_index, Result, Ok, Err, pos, unsigned_abs}
use Rattle.std.specs.Char.{is_ascii_digit}
use Rattle.std.specs.Int.{IsInRange}
use Rattle.opa_date.specs.declared.fault.DayFault.{DayFault}
use Rattle.opa_date.specs.declared.fault.DayFault.TheVariants.{Form, NoSuchDay, Range}
use Rattle.opa_date.specs.Gregorian.{Date, days_in_month, date_of, day_number, is_calendar_year}

-- four digits, `-`, two digits, `-`, two digits
abbrev pub is_day_form : List ℕ → Bool
is_day_form t =
    (length t == 10) && is_ascii_digit (slice_index t 0) && is_ascii_digit (slice_index t 1) && is_ascii_digit (slice_index t 2) && is_ascii_digit (slice_index t 3)
    && (slice_index t 4 == 45) && is_ascii_digit (slice_index t 5) && is_ascii_digit (slice_index t 6)
    && (slice_index t 7 == 45) && is_ascii_digit (slice_index t 8) && is_ascii_digit (slice_index t 9)

-- the same as a fact
pub record IsDayForm (t : List ℕ) : Type 0 where
  pub size : length t ≡ 10
  pub digit0 : IsInRange 48 57 (slice_index t 0)
  pub digit1 : IsInRange 48 57 (slice_index t 1)
  pub digit2 : IsInRange 48 57 (slice_index t 2)
  pub digit3 : IsInRange 48 57 (slice_index t 3)
  pub dash4 : slice_index t 4 ≡ 45
  pub digit5 : IsInRange 48 57 (slice_index t 5)
  pub digit6 : IsInRange 48 57 (slice_index t 6)
  pub dash7 : slice_index t 7 ≡ 45
  pub digit8 : IsInRange 48 57 (slice_index t 8)
  pub digit9 : IsInRange 48 57 (slice_index t 9)

-- the number of two digits
abbrev pub two_digits : ℕ → ℕ → ℕ
two_digits tens units = (tens - 48) * 10 + (units - 48)

-- the year, the month and the day that a text of this form names
abbrev pub named_date : List ℕ → Date
named_date t = record {
  year = pos (two_digits (slice_index t 0) (slice_index t 1) * 100 + two_digits (slice_index t 2) (slice_index t 3));
  month = two_digits (slice_index t 5) (slice_index t 6);
  day = two_digits (slice_index t 8) (slice_index t 9);
}

-- the Gregorian calendar has this date
abbrev pub is_date : Date → Bool
is_date p = nat_le 1 p.month && nat_le p.month 12 && nat_le 1 p.day && nat_le p.day (days_in_month p.year p.month)

-- the day of a named date, or its fault: there is no such date, or it isn't of the years 1600 to 2399
abbrev pub day_of_named : Date → Result ℕ DayFault
day_of_named p =
    if not (is_date p) then Err NoSuchDay
    else if not (is_calendar_year p.year) then Err Range
    else Ok (day_number p)

-- the day that a text names, or the first fault
abbrev pub read_day : List ℕ → Result ℕ DayFault
read_day t = if not (is_day_form t) then Err Form else day_of_named (named_date t)

-- the text of a date
abbrev pub date_text : Date → List ℕ
date_text p =
    let y = unsigned_abs p.year in
    (48 + y / 1000) ∷ (48 + y / 100 % 10) ∷ (48 + y / 10 % 10) ∷ (48 + y % 10) ∷ 45
    ∷ (48 + p.month / 10) ∷ (48 + p.month % 10) ∷ 45 ∷ (48 + p.day / 10) ∷ (48 + p.day % 10) ∷ []

-- the text of a day
abbrev pub day_text : ℕ → List ℕ
day_text n = date_text (date_of n)
