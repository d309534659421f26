-- A window as runs of days with one value: the number of days, and the value.
use Rattle.std.specs.Prelude.{ℕ, zero, suc, ◌+◌, ◌-◌, ◌<◌, nat_le, cond, List, [], ◌∷◌, ◌++◌, map}
use denote.Ref.{Bor}

module _ {X : Type 0} where
  abbrev pub times : ℕ → X → List X
  times zero v = []
  times (suc n) v = v ∷ times n v

  -- each run's value as often as it has days
  abbrev pub spread : List (ℕ × X) → List X
  spread [] = []
  spread (r ∷ rs) = times r.0 r.1 ++ spread rs

  -- the runs from day s on and below day t, where v is the value before the first pair
  abbrev pub runs : X → List (ℕ × X) → ℕ → ℕ → List (ℕ × X)
  runs v [] s t = (t - s, v) ∷ []
  runs v (p ∷ l) s t = cond (nat_le t p.0) ((t - s, v) ∷ []) (cond (nat_le p.0 s) (runs p.1 l s t) ((p.0 - s, v) ∷ runs p.1 l p.0 t))

  abbrev pub runs_of : List (ℕ × X) → ℕ → ℕ → List (ℕ × X)
  runs_of [] s t = []
  runs_of (p ∷ l) s t = runs p.1 l s t

  abbrev pub day_count : List (ℕ × X) → ℕ
  day_count [] = 0
  day_count (r ∷ rs) = r.0 + day_count rs

  -- each run has a day
  abbrev pub AreLong : List (ℕ × X) → Type 0
  AreLong [] = Unit {0}
  AreLong (r ∷ rs) = (0 < r.0) × AreLong rs

  -- behind its references
  abbrev pub shown : List (ℕ × Bor X) → List (ℕ × X)
  shown rs = map (λ r. (r.0, r.1.now)) rs
