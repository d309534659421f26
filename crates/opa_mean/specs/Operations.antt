-- What each operation gives on plain values. Values of other kinds than it takes, or another number of them, give
-- uncertain, and so do a result out of range, a day outside the calendar and a text over 1,000 bytes.
use Rattle.std.specs.Prelude.{ℕ, ◌/◌, ◌%◌, ℤ, pos, ◌+ℤ◌, ◌-ℤ◌, ◌*ℤ◌, neg_ℤ, int_lt, Bool, true, false, not, ◌==◌, nat_lt, nat_le, if◌then◌else◌, List, [], ◌∷◌, ◌++◌, length, Option, None, Some, unsigned_abs}
use Rattle.std.specs.Option.{option_map, option_and_then}
use Rattle.std.specs.Ordering.{int_eq}
use Rattle.std.specs.Str.{bytes_eq}
use Rattle.opa_date.specs.declared.TheConstants.{DAYS}
use Rattle.opa_date.specs.Gregorian.{date_of}
use Rattle.opa_date.specs.Moves.{add_days, add_months, add_years, years_between}
use Rattle.opa_value.specs.declared.value.Value.{Value}
use Rattle.opa_value.specs.declared.value.Value.TheVariants.{Uncertain, Bool as Truth, Num, Words, Day}
use Rattle.opa_value.specs.Arithmetic.{one, signed_as, product, quotient, rounded}
use Rattle.opa_value.specs.Numbers.{kept}
use Rattle.opa_tree.specs.declared.kinds.OpKind.{OpKind}
use Rattle.opa_tree.specs.declared.kinds.OpKind.TheVariants as op
use Rattle.opa_tree.specs.Kinds.{counts_decimals}
use Rattle.opa_window.specs.Folds.{held, number_of, greatest, least}
use Rattle.opa_window.specs.Windows.{on_date, on_dates, years_value}
use Rattle.opa_io.specs.declared.limits.TheConstants.{MOST_TEXT}

abbrev pub on_one : (Value → Value) → List Value → Value
on_one f (v ∷ []) = f v
on_one f _ = Uncertain

abbrev pub on_two : (Value → Value → Value) → List Value → Value
on_two f (v ∷ w ∷ []) = f v w
on_two f _ = Uncertain

abbrev pub on_number : (ℤ → Value) → Value → Value
on_number f (Num n) = f n
on_number f _ = Uncertain

abbrev pub on_numbers : (ℤ → ℤ → Value) → Value → Value → Value
on_numbers f (Num m) (Num n) = f m n
on_numbers f _ _ = Uncertain

-- the whole number of a count of ten-thousandths, where it is one
abbrev pub whole_of : ℤ → Option ℤ
whole_of count = if unsigned_abs count % one == 0 then Some (signed_as count (unsigned_abs count / one)) else None

-- a whole number as a value
abbrev pub whole_value : ℤ → Value
whole_value n = number_of (n *ℤ pos one)

-- a truth value, if there is one
abbrev pub truth : Option Bool → Value
truth None = Uncertain
truth (Some b) = Truth b

abbrev pub is_alike : Bool → Bool → Bool
is_alike true b = b
is_alike false b = not b

-- two values of one kind are equal; texts by their bytes
abbrev pub equal : Value → Value → Option Bool
equal (Truth a) (Truth b) = Some (is_alike a b)
equal (Num m) (Num n) = Some (int_eq m n)
equal (Words s) (Words t) = Some (bytes_eq s t)
equal (Day a) (Day b) = Some (a == b)
equal _ _ = None

-- of two numbers or two days, the first is less
abbrev pub less : Value → Value → Option Bool
less (Num m) (Num n) = Some (int_lt m n)
less (Day a) (Day b) = Some (nat_lt a b)
less _ _ = None

-- rounded to so many decimals, which are a whole number from 0 to 4
abbrev pub round : ℤ → ℤ → Value
round n k = if counts_decimals k then Num (rounded (unsigned_abs k / one) n) else Uncertain

-- a day, if there is one
abbrev pub day_or_not : Option ℕ → Value
day_or_not None = Uncertain
day_or_not (Some d) = Day d

-- a day so many days, months or years away
abbrev pub moved : (ℕ → ℤ → Option ℕ) → Value → Value → Value
moved move (Day s) (Num n) = if nat_lt s DAYS then day_or_not (option_and_then (move s) (whole_of n)) else Uncertain
moved move _ _ = Uncertain

-- the first text, then the second
abbrev pub joined : Value → Value → Value
joined (Words s) (Words t) = if nat_le (length (s ++ t)) MOST_TEXT then Words (s ++ t) else Uncertain
joined _ _ = Uncertain

abbrev pub op_of : OpKind → List Value → Value
op_of op.Add = on_two (on_numbers (λ m n. number_of (m +ℤ n)))
op_of op.Sub = on_two (on_numbers (λ m n. number_of (m -ℤ n)))
op_of op.Mul = on_two (on_numbers (λ m n. number_of (product m n)))
op_of op.Div = on_two (on_numbers (λ m n. held (option_and_then kept (quotient m n))))
op_of op.Neg = on_one (on_number (λ n. number_of (neg_ℤ n)))
op_of op.Eq = on_two (λ v w. truth (equal v w))
op_of op.Ne = on_two (λ v w. truth (option_map not (equal v w)))
op_of op.Lt = on_two (λ v w. truth (less v w))
op_of op.Le = on_two (λ v w. truth (option_map not (less w v)))
op_of op.Gt = on_two (λ v w. truth (less w v))
op_of op.Ge = on_two (λ v w. truth (option_map not (less v w)))
op_of op.Round = on_two (on_numbers round)
op_of op.Min = on_two (λ v w. least (v ∷ w ∷ []))
op_of op.Max = on_two (λ v w. greatest (v ∷ w ∷ []))
op_of op.AddDays = on_two (moved add_days)
op_of op.AddMonths = on_two (moved add_months)
op_of op.AddYears = on_two (moved add_years)
op_of op.DaysBetween = on_two (on_dates (λ s t. whole_value (pos t -ℤ pos s)))
op_of op.YearsBetween = on_two (on_dates (λ s t. years_value (years_between s t)))
op_of op.YearOf = on_one (on_date (λ s. whole_value (date_of s).year))
op_of op.MonthOf = on_one (on_date (λ s. whole_value (pos (date_of s).month)))
op_of op.DayOf = on_one (on_date (λ s. whole_value (pos (date_of s).day)))
op_of op.Concatenate = on_two joined
