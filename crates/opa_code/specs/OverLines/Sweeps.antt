-- How many values are of each kind, and how these counts change from day to day.
use Rattle.std.specs.Prelude.{◌≡◌, ◌≤ℤ◌, ℕ, ◌*◌, ◌^◌, ◌<◌, ℤ, pos, neg_ℤ, ◌+ℤ◌, ◌-ℤ◌, Bool, true, false, cond, nat_le, int_lt, List, [], ◌∷◌, ◌++◌, All}
use Rattle.std.specs.List.Sorted.{IsNonDecreasingBy}
use Rattle.opa_date.specs.declared.TheConstants.{DAYS}
use Rattle.opa_value.specs.declared.value.Value.{Value}
use Rattle.opa_value.specs.declared.value.Value.TheVariants.{Unknown, Uncertain, Bool as Truth}
use Rattle.opa_value.specs.Truth.{is_true, is_false, is_unknown, is_uncertain}
use Rattle.opa_window.specs.Folds.{count_of, number_of}
use Rattle.opa_window.specs.Days.{day_value}
use Rattle.opa_code.specs.OverLines.Additions.{Alike}
use Rattle.opa_code.specs.OverLines.Lines.{values_at}
use Rattle.opa_code.specs.OverLines.Tallies.{IsTally, is_most}
use Rattle.opa_code.specs.declared.over_lines.counts.Counts.{Counts}
use Rattle.opa_code.specs.declared.over_lines.gathering.Gathering.{Gathering}
use Rattle.opa_code.specs.declared.over_lines.gathering.Gathering.TheVariants as gathering
use Rattle.opa_code.specs.declared.over_lines.sweep.Change.{Change}
use Rattle.opa_code.specs.declared.over_lines.tally.Tally.{Tally}

-- which of the counts
pub data Kind : Type 0 where
  OfFalse : Kind
  OfTrue : Kind
  OfUnknown : Kind
  OfUncertain : Kind
  OfNumbers : Kind

abbrev pub count : Kind → Counts → ℤ
count OfFalse c = c.falses
count OfTrue c = c.trues
count OfUnknown c = c.unknowns
count OfUncertain c = c.uncertains
count OfNumbers c = c.total

-- so many, if it holds
abbrev pub many_if : ℕ → Bool → ℤ
many_if n b = cond b (pos n) (pos 0)

-- the counts of one value
abbrev pub counts_of : Value → Counts
counts_of v = record { falses = many_if 1 (is_false v); trues = many_if 10000 (is_true v); unknowns = many_if 1 (is_unknown v); uncertains = many_if 1 (is_uncertain v); total = count_of v }

-- what is known of the counts of values that have a tally
abbrev pub counts_in : Tally → Counts
counts_in t = record { falses = many_if 1 t.marks.some_false; trues = pos (t.sums.trues * 10000); unknowns = many_if 1 t.marks.unknown; uncertains = many_if 1 t.marks.uncertain; total = t.sums.total }

abbrev pub both : Counts → Counts → Counts
both a b = record { falses = a.falses +ℤ b.falses; trues = a.trues +ℤ b.trues; unknowns = a.unknowns +ℤ b.unknowns; uncertains = a.uncertains +ℤ b.uncertains; total = a.total +ℤ b.total }

abbrev pub without : Counts → Counts → Counts
without a b = record { falses = a.falses -ℤ b.falses; trues = a.trues -ℤ b.trues; unknowns = a.unknowns -ℤ b.unknowns; uncertains = a.uncertains -ℤ b.uncertains; total = a.total -ℤ b.total }

-- the counts of two lists together, and of one without the other
pub record IsSum (a b r : Counts) : Type 0 where
  pub falses : r.falses ≡ a.falses +ℤ b.falses
  pub trues : r.trues ≡ a.trues +ℤ b.trues
  pub unknowns : r.unknowns ≡ a.unknowns +ℤ b.unknowns
  pub uncertains : r.uncertains ≡ a.uncertains +ℤ b.uncertains
  pub total : r.total ≡ a.total +ℤ b.total

pub record IsDifference (a b r : Counts) : Type 0 where
  pub falses : r.falses ≡ a.falses -ℤ b.falses
  pub trues : r.trues ≡ a.trues -ℤ b.trues
  pub unknowns : r.unknowns ≡ a.unknowns -ℤ b.unknowns
  pub uncertains : r.uncertains ≡ a.uncertains -ℤ b.uncertains
  pub total : r.total ≡ a.total -ℤ b.total

-- a number is at most so far from 0
pub record IsWithin (n : ℕ) (z : ℤ) : Type 0 where
  pub low : neg_ℤ (pos n) ≤ℤ z
  pub high : z ≤ℤ pos n

pub record AreWithin (n : ℕ) (c : Counts) : Type 0 where
  pub falses : IsWithin n c.falses
  pub trues : IsWithin n c.trues
  pub unknowns : IsWithin n c.unknowns
  pub uncertains : IsWithin n c.uncertains
  pub total : IsWithin n c.total

-- what a value adds to a count, and what values add to it
abbrev pub weight : Kind → Value → ℤ
weight k v = count k (counts_of v)

abbrev pub weigh : Kind → List Value → ℤ
weigh k [] = pos 0
weigh k (v ∷ vs) = weight k v +ℤ weigh k vs

-- what a change adds to a count
abbrev pub step : Kind → Change → ℤ
step k c = weight k c.after.now -ℤ weight k c.before.now

-- what the changes up to a day add to a count
abbrev pub moved : Kind → ℕ → List Change → ℤ
moved k d [] = pos 0
moved k d (c ∷ cs) = cond (nat_le c.day d) (step k c) (pos 0) +ℤ moved k d cs

-- the counts at a day
abbrev pub counts_at : Counts → List Change → ℕ → Counts
counts_at c cs d = record { falses = c.falses +ℤ moved OfFalse d cs; trues = c.trues +ℤ moved OfTrue d cs; unknowns = c.unknowns +ℤ moved OfUnknown d cs; uncertains = c.uncertains +ℤ moved OfUncertain d cs; total = c.total +ℤ moved OfNumbers d cs }

-- there is one
abbrev pub is_some : ℤ → Bool
is_some n = int_lt (pos 0) n

abbrev pub unless_counted : Counts → Value → Value
unless_counted c v = cond (is_some c.unknowns) Unknown (cond (is_some c.uncertains) Uncertain v)

-- what counts tell; of the best they tell nothing
abbrev pub counted : Gathering → Counts → Value
counted gathering.All c = cond (is_some c.falses) (Truth false) (unless_counted c (Truth true))
counted gathering.Any c = cond (is_some c.trues) (Truth true) (unless_counted c (Truth false))
counted gathering.Open c = unless_counted c Uncertain
counted gathering.CountIf c = unless_counted c (number_of c.trues)
counted gathering.Sum c = unless_counted c (number_of c.total)
counted (gathering.Best most) c = unless_counted c Uncertain

abbrev pub is_best : Gathering → Bool
is_best (gathering.Best most) = true
is_best _ = false

-- the counts after a change
pub record IsChanged (change : Change) (old new : Counts) : Type 0 where
  pub is : new ≡ without (both old (counts_of change.after.now)) (counts_of change.before.now)
  pub before : AreWithin (10 ^ 17) (counts_of change.before.now)
  pub after : AreWithin (10 ^ 17) (counts_of change.after.now)

-- no change comes before an earlier one
abbrev pub AreInOrder : List Change → Type 0
AreInOrder cs = IsNonDecreasingBy (λ (c : Change). c.day) cs

-- each change is on a day of the calendar
abbrev pub AreBelow : List Change → Type 0
AreBelow cs = All (λ (c : Change). c.day < DAYS) cs

-- the changes of a line are added
pub record Adds (line : List (ℕ × Value)) (old new : List Change) : Type 0 where
  pub counts : (k : Kind) (d : ℕ) → d < DAYS → moved k d new ≡ moved k d old +ℤ (weight k (day_value line d) -ℤ weight k (day_value line 0))
  pub below : AreBelow old → AreBelow new

-- these are the changes of lines
pub record AreChanges (lines : List (List (ℕ × Value))) (changes : List Change) : Type 0 where
  pub counts : (k : Kind) (d : ℕ) → d < DAYS → moved k d changes ≡ weigh k (values_at lines d) -ℤ weigh k (values_at lines 0)
  pub below : AreBelow changes

-- what is counted before, and beside it the lines at the first day
pub record AreFirst (before : Tally) (lines : List (List (ℕ × Value))) (c : Counts) : Type 0 where
  pub counts : (k : Kind) → count k c ≡ count k (counts_in before) +ℤ weigh k (values_at lines 0)
  pub within : AreWithin (2 ^ 123) c

-- the lines have these values beside others that have the tally
pub record AreBeside (how : Gathering) (before : Tally) (lines : List (List (ℕ × Value))) (values : ℕ → List Value) : Type 0 where
  pub others : List Value
  pub tallied : IsTally (is_most how) others before
  pub alike : (d : ℕ) → d < DAYS → Alike (others ++ values_at lines d) (values d)
