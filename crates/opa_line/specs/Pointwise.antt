-- What a function answers on the values that lines have at each day.
use Rattle.std.specs.Prelude.{◌≡◌, ℕ, ◌<◌, List, Some, Result, Ok}
use Rattle.std.specs.Fn.{Shared}
use denote.Ref.{Bor}
use Rattle.opa_line.specs.Lines.{at}

-- each day has a value with the property
abbrev pub EachDay : {Z : Type 0} → (ℕ → Z → Type 0) → ℕ → List (ℕ × Z) → Type 0
EachDay {Z} P end l = (d : ℕ) → d < end → (z : Z) × P d z × (at l d ≡ Some z)

module _ {F X Y Z E : Type 0} (g : Shared F (Bor X × (Bor Y × Unit {0})) (Result Z E)) (f : F) where
  -- f may be called on the values of each day
  abbrev pub MayJoin : ℕ → List (ℕ × X) → List (ℕ × Y) → Type 0
  MayJoin end l m = (d : ℕ) (p : Bor X) (q : Bor Y) → d < end → at l d ≡ Some p.now → at m d ≡ Some q.now → g.pre f (p, (q, tt))

  -- z is f's answer on the values of that day
  pub record Joins (l : List (ℕ × X)) (m : List (ℕ × Y)) (d : ℕ) (z : Z) : Type 0 where
    pub first : Bor X
    pub second : Bor Y
    pub left : at l d ≡ Some first.now
    pub right : at m d ≡ Some second.now
    pub says : g.post f (first, (second, tt)) (Ok z)

module _ {F X Z E : Type 0} (g : Shared F (Bor X × Unit {0}) (Result Z E)) (f : F) where
  -- f may be called on the value of each day
  abbrev pub MayMap : ℕ → List (ℕ × X) → Type 0
  MayMap end l = (d : ℕ) (p : Bor X) → d < end → at l d ≡ Some p.now → g.pre f (p, tt)

  -- z is f's answer on the value of that day
  pub record Maps (l : List (ℕ × X)) (d : ℕ) (z : Z) : Type 0 where
    pub first : Bor X
    pub left : at l d ≡ Some first.now
    pub says : g.post f (first, tt) (Ok z)
