-- What holds of lines.
use Rattle.std.specs.Prelude.{◌≡◌, ℕ, ◌<◌, ◌↔◌, Bool, true, List, Some}
use Rattle.opa_date.specs.declared.TheConstants.{DAYS}
use Rattle.opa_line.specs.Lines.{at, IsLine, StandsFor, IsLastUpTo, canon}

module _ (X : Type 0) where
  -- two lines with equal values at every day are equal
  abbrev pub EqualWhereValuesAre : Type 0
  EqualWhereValuesAre = (l m : List (ℕ × X)) → IsLine DAYS l → IsLine DAYS m → ((d : ℕ) → d < DAYS → at l d ≡ at m d) → l ≡ m

  -- the value at a day is that of the last pair whose day is at most the day
  abbrev pub AtIsOfTheLastPair : Type 0
  AtIsOfTheLastPair = (l : List (ℕ × X)) → IsLine DAYS l → (d : ℕ) → (v : X) × (at l d ≡ Some v) × IsLastUpTo d l v

  -- canon is a line, it has f's value at every day, and it is the only one
  abbrev pub CanonIsTheLine : Type 0
  CanonIsTheLine = (same : X → X → Bool) → ((x y : X) → (same x y ≡ true) ↔ (x ≡ y)) → (f : ℕ → X)
      → IsLine DAYS (canon same DAYS f) × StandsFor DAYS f (canon same DAYS f)
      × ((l : List (ℕ × X)) → IsLine DAYS l → StandsFor DAYS f l → l ≡ canon same DAYS f)
