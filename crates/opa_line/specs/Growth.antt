-- A line that is made from its first day on.
use Rattle.std.specs.Prelude.{◌≡◌, ◌≢◌, ◌⊎◌, ℕ, zero, suc, ◌<◌, ◌≤◌, List, [], ◌∷◌, ◌++◌, Some}
use Rattle.opa_line.specs.Lines.{at, IsLine}

module _ {X : Type 0} where
  -- the last value from v on
  abbrev pub last_of : X → List (ℕ × X) → X
  last_of v [] = v
  last_of v (p ∷ l) = last_of p.1 l

  -- the last value, where there is one
  abbrev pub last_value : X → List (ℕ × X) → X
  last_value x [] = x
  last_value x (p ∷ l) = last_of p.1 l

  -- the form of a line over the days below k
  abbrev pub IsUpTo : ℕ → List (ℕ × X) → Type 0
  IsUpTo zero l = l ≡ []
  IsUpTo (suc k) l = IsLine (suc k) l

  -- the pair is appended where its value is new
  abbrev pub Added : List (ℕ × X) → ℕ → X → List (ℕ × X) → Type 0
  Added l d v m = ((v ≡ last_value v l) × (m ≡ l)) ⊎ ((v ≢ last_value v l) × (m ≡ l ++ (d, v) ∷ []))

  -- the pair is appended where there is none, or its value is new
  abbrev pub Entered : List (ℕ × X) → ℕ → X → List (ℕ × X) → Type 0
  Entered [] d v m = m ≡ (d, v) ∷ []
  Entered (p ∷ l) d v m = Added (p ∷ l) d v m

  -- the value holds from the day up to which the line went, and below k, and before that day all is as it was
  pub record Grown (old : ℕ × List (ℕ × X)) (k : ℕ) (v : X) (new : ℕ × List (ℕ × X)) : Type 0 where
    pub upto : (old.0 ≤ k → new.0 ≡ k) × (k ≤ old.0 → new ≡ old)
    pub before : (d : ℕ) → d < old.0 → at new.1 d ≡ at old.1 d
    pub from : (d : ℕ) → old.0 ≤ d → d < k → at new.1 d ≡ Some v
