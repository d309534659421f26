-- Going through the change points of two lines side by side.
use Rattle.std.specs.Prelude.{ℕ, cond, nat_le, ◌==◌, List, [], ◌∷◌, Option, None, Some}

module _ {X : Type 0} where
  -- the day of the first pair
  abbrev pub next_of : List (ℕ × X) → Option ℕ
  next_of [] = None
  next_of (p ∷ l) = Some p.0

  -- the value and what is left, once the day is reached
  abbrev pub reached_value : ℕ → X → List (ℕ × X) → X
  reached_value d v [] = v
  reached_value d v (p ∷ l) = cond (p.0 == d) p.1 v

  abbrev pub reached_rest : ℕ → List (ℕ × X) → List (ℕ × X)
  reached_rest d [] = []
  reached_rest d (p ∷ l) = cond (p.0 == d) l (p ∷ l)

-- the earlier of two days, where there is one
abbrev pub earlier : Option ℕ → Option ℕ → Option ℕ
earlier None b = b
earlier (Some m) None = Some m
earlier (Some m) (Some n) = Some (cond (nat_le m n) m n)
