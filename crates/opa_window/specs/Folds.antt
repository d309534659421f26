-- What is made of a list of values: their sum, the greatest, the least, and the longest run of true ones.
use Rattle.std.specs.Prelude.{ℕ, ◌+◌, ◌*◌, ℤ, pos, ◌+ℤ◌, Bool, true, false, nat_lt, int_lt, max, if◌then◌else◌, List, [], ◌∷◌, Option, None, Some}
use Rattle.opa_value.specs.declared.value.Value.{Value}
use Rattle.opa_value.specs.declared.value.Value.TheVariants as value
use Rattle.opa_value.specs.Numbers.{kept}
use Rattle.opa_value.specs.Truth.{is_true, all_of, any_of, strict}
use Rattle.opa_window.specs.declared.folds.Fold.{Fold}
use Rattle.opa_window.specs.declared.folds.Fold.TheVariants as fold

-- the value of a count of ten-thousandths, and uncertain where it is out of range
abbrev pub held : Option ℤ → Value
held None = value.Uncertain
held (Some count) = value.Num count

abbrev pub number_of : ℤ → Value
number_of count = held (kept count)

-- a number's count, and 0 for another value
abbrev pub count_of : Value → ℤ
count_of (value.Num count) = count
count_of _ = pos 0

abbrev pub total : List Value → ℤ
total [] = pos 0
total (v ∷ vs) = count_of v +ℤ total vs

-- of two numbers or two days, the first is less
abbrev pub is_less : Value → Value → Bool
is_less (value.Num m) (value.Num n) = int_lt m n
is_less (value.Day a) (value.Day b) = nat_lt a b
is_less _ _ = false

abbrev pub is_more : Value → Value → Bool
is_more v w = is_less w v

-- the one of v and the values that beats each before it and is beaten by none after it
abbrev pub best_from : (Value → Value → Bool) → Value → List Value → Value
best_from is_beaten v [] = v
best_from is_beaten v (w ∷ vs) = best_from is_beaten (if is_beaten v w then w else v) vs

-- of no values none is best
abbrev pub best : (Value → Value → Bool) → List Value → Value
best is_beaten [] = value.Uncertain
best is_beaten (v ∷ vs) = best_from is_beaten v vs

abbrev pub greatest : List Value → Value
greatest = best is_less

abbrev pub least : List Value → Value
least = best is_more

-- how many values are true before the first that isn't
abbrev pub true_ahead : List Value → ℕ
true_ahead [] = 0
true_ahead (v ∷ vs) = if is_true v then true_ahead vs + 1 else 0

-- the greatest number of neighbouring true values
abbrev pub longest : List Value → ℕ
longest [] = 0
longest (v ∷ vs) = max (true_ahead (v ∷ vs)) (longest vs)

-- the whole sum, then its range
abbrev pub sum_value : List Value → Value
sum_value vs = number_of (total vs)

-- how many days the longest run has, as a number
abbrev pub run_value : List Value → Value
run_value vs = number_of (pos (longest vs * 10000))

-- what each interval function makes of the values of its window
abbrev pub fold_of : Fold → List Value → Value
fold_of fold.All = all_of
fold_of fold.Any = any_of
fold_of fold.Sum = strict sum_value
fold_of fold.Greatest = strict greatest
fold_of fold.Least = strict least
fold_of fold.Run = strict run_value

-- what beats a value: a greater one, or a lesser one
abbrev pub is_beaten_of : Bool → Value → Value → Bool
is_beaten_of true = is_less
is_beaten_of false = is_more
