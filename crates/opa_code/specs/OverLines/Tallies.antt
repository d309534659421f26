-- What is told of a list of values from its tally, and what is gathered from them.
use Rattle.std.specs.Prelude.{◌≡◌, ◌≤ℤ◌, ℕ, ◌*◌, ◌^◌, ◌<◌, ℤ, pos, neg_ℤ, ◌+◌, ◌+ℤ◌, ◌||◌, Bool, true, false, cond, nat_lt, int_lt, List, [], ◌∷◌, ◌++◌, Option, None, Some, length, filter}
use Rattle.std.specs.List.{list_any}
use Rattle.opa_value.specs.declared.value.Value.{Value}
use Rattle.opa_value.specs.declared.value.Value.TheVariants.{Unknown, Uncertain, Bool as Truth, Num, Day}
use Rattle.opa_value.specs.Truth.{all_of, any_of, unless_open, strict, is_true, is_false, is_unknown, is_uncertain}
use Rattle.opa_window.specs.Folds.{sum_value, greatest, least, total, number_of}
use Rattle.opa_mean.specs.Meaning.{true_count, amount}
use Rattle.opa_code.specs.OverLines.Lines.{values_at}
use Rattle.opa_code.specs.declared.over_lines.gathering.Gathering.{Gathering}
use Rattle.opa_code.specs.declared.over_lines.gathering.Gathering.TheVariants as gathering
use Rattle.opa_code.specs.declared.over_lines.tally.Tally.{Tally}
use Rattle.opa_code.specs.declared.over_lines.marks.Marks.{Marks}
use Rattle.opa_code.specs.declared.over_lines.peaks.Peaks.{Peaks}
use Rattle.opa_code.specs.declared.over_lines.sums.Sums.{Sums}

-- what is gathered from values
abbrev pub gather_of : Gathering → List Value → Value
gather_of gathering.All = all_of
gather_of gathering.Any = any_of
gather_of gathering.Open = λ vs. unless_open vs Uncertain
gather_of gathering.CountIf = strict true_count
gather_of gathering.Sum = strict sum_value
gather_of (gathering.Best true) = strict greatest
gather_of (gathering.Best false) = strict least

-- whether the best is the greatest
abbrev pub is_most : Gathering → Bool
is_most (gathering.Best most) = most
is_most _ = true

module _ {X : Type 0} (is_beaten : X → X → Bool) where
  -- the one of two that isn't beaten, the first of equals
  abbrev pub winner : X → X → X
  winner x y = cond (is_beaten x y) y x

  abbrev pub ahead : Option X → Option X → Option X
  ahead None o = o
  ahead (Some x) None = Some x
  ahead (Some x) (Some y) = Some (winner x y)

  -- the best of those that values have
  abbrev pub peak : (Value → Option X) → List Value → Option X
  peak key [] = None
  peak key (v ∷ vs) = ahead (key v) (peak key vs)

abbrev pub number_in : Value → Option ℤ
number_in (Num n) = Some n
number_in _ = None

abbrev pub day_in : Value → Option ℕ
day_in (Day d) = Some d
day_in _ = None

abbrev pub beats_number : Bool → ℤ → ℤ → Bool
beats_number true m n = int_lt m n
beats_number false m n = int_lt n m

abbrev pub beats_day : Bool → ℕ → ℕ → Bool
beats_day true a b = nat_lt a b
beats_day false a b = nat_lt b a

-- what there is, where there is something
abbrev pub held_if : {X : Type 0} → Bool → X → Option X
held_if true x = Some x
held_if false x = None

-- which truth values and open ones occur
abbrev pub marks_of : List Value → Marks
marks_of vs = record { some_false = list_any is_false vs; some_true = list_any is_true vs; unknown = list_any is_unknown vs; uncertain = list_any is_uncertain vs }

abbrev pub both_marks : Marks → Marks → Marks
both_marks s t = record { some_false = s.some_false || t.some_false; some_true = s.some_true || t.some_true; unknown = s.unknown || t.unknown; uncertain = s.uncertain || t.uncertain }

-- how many values are true, and the sum of the numbers' counts, which is a sum of so many
pub record AreSums (vs : List Value) (t : Sums) : Type 0 where
  pub trues : t.trues ≡ length (filter is_true vs)
  pub total : t.total ≡ total vs
  pub low : neg_ℤ (pos (length vs * 10 ^ 17)) ≤ℤ t.total
  pub high : t.total ≤ℤ pos (length vs * 10 ^ 17)

-- two such sums can be added
pub record AreSmall (t : Sums) : Type 0 where
  pub trues : t.trues < 2 ^ 63
  pub low : neg_ℤ (pos (2 ^ 120)) ≤ℤ t.total
  pub high : t.total ≤ℤ pos (2 ^ 120)

pub record AreBothSums (s t r : Sums) : Type 0 where
  pub trues : r.trues ≡ s.trues + t.trues
  pub total : r.total ≡ s.total +ℤ t.total

-- the best number and the best day
pub record ArePeaks (most : Bool) (vs : List Value) (t : Peaks) : Type 0 where
  pub number : held_if t.has_number t.number ≡ peak (beats_number most) number_in vs
  pub day : held_if t.has_day t.day ≡ peak (beats_day most) day_in vs

-- the best of two, of which each may be missing
abbrev pub better_of : {X : Type 0} → (X → X → Bool) → Bool → X → Bool → X → X
better_of is_beaten true x true y = winner is_beaten x y
better_of is_beaten true x false y = x
better_of is_beaten false x b y = y

pub record AreBothPeaks (most : Bool) (s t r : Peaks) : Type 0 where
  pub has_number : r.has_number ≡ (s.has_number || t.has_number)
  pub number : r.number ≡ better_of (beats_number most) s.has_number s.number t.has_number t.number
  pub has_day : r.has_day ≡ (s.has_day || t.has_day)
  pub day : r.day ≡ better_of (beats_day most) s.has_day s.day t.has_day t.day

-- the tally of values
pub record IsTally (most : Bool) (vs : List Value) (t : Tally) : Type 0 where
  pub marks : t.marks ≡ marks_of vs
  pub sums : AreSums vs t.sums
  pub peaks : ArePeaks most vs t.peaks

-- the tally of a value alone
pub record IsOne (v : Value) (t : Tally) : Type 0 where
  pub tally : (most : Bool) → IsTally most (v ∷ []) t

-- the tally of the values of two
pub record IsBoth (most : Bool) (s t r : Tally) : Type 0 where
  pub marks : r.marks ≡ both_marks s.marks t.marks
  pub sums : AreBothSums s.sums t.sums r.sums
  pub peaks : AreBothPeaks most s.peaks t.peaks r.peaks

-- the tally of lines that don't change
pub record AreConstant (most : Bool) (lines : List (List (ℕ × Value))) (t : Tally) : Type 0 where
  pub tallied : IsTally most (values_at lines 0) t
  pub constant : (d : ℕ) → values_at lines d ≡ values_at lines 0

-- one value more is counted
pub record IsCounted (most : Bool) (value : Value) (old new : Tally) : Type 0 where
  pub tallied : (vs : List Value) → IsTally most vs old → IsTally most (vs ++ value ∷ []) new

abbrev pub unless_marked : Marks → Value → Value
unless_marked t v = cond t.unknown Unknown (cond t.uncertain Uncertain v)

abbrev pub number_or : Option ℤ → Value
number_or None = Uncertain
number_or (Some n) = Num n

abbrev pub day_or : Option ℕ → Value
day_or None = Uncertain
day_or (Some d) = Day d

-- the best is of the first value's kind
abbrev pub best_told : Peaks → Value → Value
best_told t (Num n) = number_or (held_if t.has_number t.number)
best_told t (Day d) = day_or (held_if t.has_day t.day)
best_told t v = v

-- what a tally and the first value tell
abbrev pub told : Gathering → Tally → Value → Value
told gathering.All t first = cond t.marks.some_false (Truth false) (unless_marked t.marks (Truth true))
told gathering.Any t first = cond t.marks.some_true (Truth true) (unless_marked t.marks (Truth false))
told gathering.Open t first = unless_marked t.marks Uncertain
told gathering.CountIf t first = unless_marked t.marks (amount t.sums.trues)
told gathering.Sum t first = unless_marked t.marks (number_of t.sums.total)
told (gathering.Best most) t first = unless_marked t.marks (best_told t.peaks first)
