-- Sets of days that are made of spans, from a first day on and below an end.
use Rattle.std.specs.Prelude.{◌≡◌, ◌↔◌, ℕ, ◌+◌, ◌-◌, ◌<◌, ◌≤◌, Bool, true, ◌&&◌, nat_le, nat_lt, cond, List, [], ◌∷◌, Some}
use Rattle.std.specs.List.{list_any}
use Rattle.opa_date.specs.declared.TheConstants.{DAYS}
use Rattle.opa_line.specs.Lines.{at}
use Rattle.opa_report.specs.declared.day_sets.spans.Span.{Span}
use Rattle.opa_report.specs.DaySets.Sets.{on}

abbrev pub has : Span → ℕ → Bool
has s d = nat_le s.first d && nat_lt d s.end

-- one of the spans has the day
abbrev pub one_has : List Span → ℕ → Bool
one_has spans d = list_any (λ s. has s d) spans

-- a day has a span that has the other
pub record IsCovered (l : List (ℕ × Span)) (d : ℕ) : Type 0 where
  pub day : ℕ
  pub within : day < DAYS
  pub span : Span
  pub is : at l day ≡ Some span
  pub has_it : has span d ≡ true

-- the set has the days that the spans of the line have
abbrev pub Covers : List (ℕ × Span) → List (ℕ × Bool) → Type 0
Covers l set = (d : ℕ) → d < DAYS → (on set d ≡ true) ↔ IsCovered l d

-- a day of the set is one of the n days from a day on
pub record IsAhead (set : List (ℕ × Bool)) (n d : ℕ) : Type 0 where
  pub day : ℕ
  pub within : day < DAYS
  pub is : on set day ≡ true
  pub back : day + 1 - n ≤ d
  pub upto : d ≤ day

-- the days up to n - 1 days before a day of the set
abbrev pub LooksBack : List (ℕ × Bool) → ℕ → List (ℕ × Bool) → Type 0
LooksBack set n new = (d : ℕ) → d < DAYS → (on new d ≡ true) ↔ IsAhead set n d

-- the day up to which a pair's value holds
abbrev pub upto : {X : Type 0} → List (ℕ × X) → ℕ
upto [] = DAYS
upto (p ∷ l) = p.0

-- of each pair of the set the days that are looked back to
abbrev pub back_spans : ℕ → List (ℕ × Bool) → List Span
back_spans n [] = []
back_spans n (p ∷ l) = cond p.1 (record { first = p.0 - (n - 1); end = upto l } ∷ back_spans n l) (back_spans n l)
