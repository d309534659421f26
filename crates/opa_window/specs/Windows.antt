-- The functions over time, each at one day: x tells a value for each day, and the dates are those of the day for which
-- the function is asked. A date is a day of the calendar; another plain value in a date's place gives uncertain.
use Rattle.std.specs.Prelude.{ℕ, ◌*◌, pos, ◌&&◌, nat_lt, nat_le, if◌then◌else◌, List, [], ◌∷◌, Option, None, Some}
use Rattle.opa_date.specs.declared.TheConstants.{DAYS}
use Rattle.opa_date.specs.Moves.{years_between}
use Rattle.opa_value.specs.declared.value.Value.{Value}
use Rattle.opa_value.specs.declared.value.Value.TheVariants as value
use Rattle.opa_value.specs.Truth.{all_of, any_of, strict, unless_open}
use Rattle.opa_window.specs.Days.{over_days, last_days}
use Rattle.opa_window.specs.Folds.{number_of, sum_value, greatest, least, run_value}

-- what f gives for a day of the calendar
abbrev pub on_date : (ℕ → Value) → Value → Value
on_date f (value.Day s) = if nat_lt s DAYS then f s else value.Uncertain
on_date f _ = value.Uncertain

-- what f gives for two days of the calendar
abbrev pub on_dates : (ℕ → ℕ → Value) → Value → Value → Value
on_dates f (value.Day s) (value.Day t) = if nat_lt s DAYS && nat_lt t DAYS then f s t else value.Uncertain
on_dates f _ _ = value.Uncertain

-- strict in the date
abbrev pub at_date : (ℕ → Value) → Value → Value
at_date f date = unless_open (date ∷ []) (on_date f date)

-- strict in both dates, the values from the first on and below the last
abbrev pub in_window : (List Value → Value) → (ℕ → Value) → Value → Value → Value
in_window fold x start end = unless_open (start ∷ end ∷ []) (on_dates (λ s t. fold (over_days x s t)) start end)

-- x at the date
abbrev pub value_at : (ℕ → Value) → Value → Value
value_at x date = at_date x date

-- all and any of x over the window: true and false where it is empty
abbrev pub interval_always : (ℕ → Value) → Value → Value → Value
interval_always x start end = in_window all_of x start end

abbrev pub interval_sometimes : (ℕ → Value) → Value → Value → Value
interval_sometimes x start end = in_window any_of x start end

-- strict in x on the window's days: the whole sum, then its range; 0 where it is empty
abbrev pub interval_sum : (ℕ → Value) → Value → Value → Value
interval_sum x start end = in_window (strict sum_value) x start end

-- the greatest and the least value, uncertain where the window is empty
abbrev pub interval_max : (ℕ → Value) → Value → Value → Value
interval_max x start end = in_window (strict greatest) x start end

abbrev pub interval_min : (ℕ → Value) → Value → Value → Value
interval_min x start end = in_window (strict least) x start end

-- the length in days of the longest run of true days, 0 where the window is empty
abbrev pub interval_run : (ℕ → Value) → Value → Value → Value
interval_run x start end = in_window (strict run_value) x start end

-- all and any of x over the n days that end with day d, cut at day 0
abbrev pub rolling_always : ℕ → (ℕ → Value) → ℕ → Value
rolling_always n x d = all_of (last_days n x d)

abbrev pub rolling_sometimes : ℕ → (ℕ → Value) → ℕ → Value
rolling_sometimes n x d = any_of (last_days n x d)

-- day d is before the date, or is not
abbrev pub before : Value → ℕ → Value
before date d = at_date (λ s. value.Bool (nat_lt d s)) date

abbrev pub on_or_after : Value → ℕ → Value
on_or_after date d = at_date (λ s. value.Bool (nat_le s d)) date

-- a number of years, if there is one
abbrev pub years_value : Option ℕ → Value
years_value None = value.Uncertain
years_value (Some years) = number_of (pos (years * 10000))

-- the whole years from the date to day d, uncertain before the date
abbrev pub years_since : Value → ℕ → Value
years_since date d = at_date (λ s. years_value (years_between s d)) date
