-- The values of literals.
use Rattle.std.specs.Prelude.{ℕ, ℤ, neg_ℤ, List, Option, Some, None, Result, Ok, Err}
use Rattle.std.specs.Option.{option_map, option_and_then}
use Rattle.opa_value.specs.declared.number.NumFault.{NumFault}
use Rattle.opa_value.specs.declared.value.Value.TheVariants as value
use Rattle.opa_value.specs.Numbers.{kept}
use Rattle.opa_value.specs.NumberText.{read_number}
use Rattle.opa_date.specs.declared.fault.DayFault.{DayFault}
use Rattle.opa_date.specs.Texts.{read_day}
use Rattle.opa_sentence.specs.declared.reading.Reading.{Reading}
use Rattle.opa_sentence.specs.Measures.{Bounds}
use Rattle.opa_sentence.specs.Readings.{literal}

abbrev pub number_or_none : Result ℤ NumFault → Option ℤ
number_or_none (Ok n) = Some n
number_or_none (Err f) = None

-- the number that a text spells, if it is in the range of numbers
abbrev pub number_in : List ℕ → Option ℤ
number_in text = number_or_none (read_number text)

-- with a minus before it
abbrev pub negative_in : List ℕ → Option ℤ
negative_in text = option_and_then (λ n. kept (neg_ℤ n)) (number_in text)

abbrev pub day_or_none : Result ℕ DayFault → Option ℕ
day_or_none (Ok d) = Some d
day_or_none (Err f) = None

-- the day that a text names, if the calendar has it
abbrev pub day_in : List ℕ → Option ℕ
day_in text = day_or_none (read_day text)

module _ (b : Bounds) where
  abbrev pub number_literal : List ℕ → Option Reading
  number_literal text = option_map (λ n. literal b (value.Num n)) (number_in text)

  abbrev pub negative_literal : List ℕ → Option Reading
  negative_literal text = option_map (λ n. literal b (value.Num n)) (negative_in text)

  abbrev pub date_literal : List ℕ → Option Reading
  date_literal text = option_map (λ d. literal b (value.Day d)) (day_in text)
