-- Values over the calendar, as a list of change points: pairs of a day and the value from that day on.
use Rattle.std.specs.Prelude.{◌≡◌, ◌≢◌, ℕ, zero, suc, ◌+◌, ◌-◌, ◌<◌, ◌≤◌, Bool, cond, nat_le, List, [], ◌∷◌, ◌++◌, Option, None, Some, All}

module _ {X : Type 0} where
  -- the value at a day, where v is the value before the first pair
  abbrev pub value_from : X → List (ℕ × X) → ℕ → X
  value_from v [] d = v
  value_from v (p ∷ l) d = cond (nat_le p.0 d) (value_from p.1 l d) v

  -- the value at a day: that of the last pair whose day is at most d
  abbrev pub at : List (ℕ × X) → ℕ → Option X
  at [] d = None
  at (p ∷ l) d = Some (value_from p.1 l d)

  -- the value, where there is one
  abbrev pub value_or : X → Option X → X
  value_or x None = x
  value_or x (Some y) = y

  -- days rise from d on, below the calendar's end, and each value differs from the one before
  abbrev pub Follows : ℕ → ℕ → X → List (ℕ × X) → Type 0
  Follows end d v [] = Unit {0}
  Follows end d v (p ∷ l) = (d < p.0) × (p.0 < end) × (p.1 ≢ v) × Follows end p.0 p.1 l

  -- the form of a line over a calendar of so many days: the first day is 0, days rise, neighbours differ
  abbrev pub IsLine : ℕ → List (ℕ × X) → Type 0
  IsLine end [] = ⊥
  IsLine end (p ∷ l) = (p.0 ≡ 0) × Follows end 0 p.1 l

  -- the line has f's value at every day
  abbrev pub StandsFor : ℕ → (ℕ → X) → List (ℕ × X) → Type 0
  StandsFor end f l = (d : ℕ) → d < end → at l d ≡ Some (f d)

  -- v is the value of the last pair whose day is at most d
  pub record IsLastUpTo (d : ℕ) (l : List (ℕ × X)) (v : X) : Type 0 where
    pub before : List (ℕ × X)
    pub day : ℕ
    pub after : List (ℕ × X)
    pub parts : l ≡ before ++ (day, v) ∷ after
    pub reached : day ≤ d
    pub later : All (λ (p : ℕ × X). d < p.0) after

  -- the days from d on, n of them, at which f's value isn't the one before
  unfoldable pub changes : (X → X → Bool) → (ℕ → X) → ℕ → X → ℕ → List (ℕ × X)
  changes same f d v zero = []
  changes same f d v (suc n) = cond (same (f d) v) (changes same f (d + 1) v n) ((d, f d) ∷ changes same f (d + 1) (f d) n)

  -- the line of a function: it goes through the days in order, and adds a pair at each day whose value isn't the one before
  unfoldable pub canon : (X → X → Bool) → ℕ → (ℕ → X) → List (ℕ × X)
  canon same end f = (0, f 0) ∷ changes same f 1 (f 0) (end - 1)
