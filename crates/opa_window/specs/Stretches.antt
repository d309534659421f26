-- A line that is made stretch by stretch.
use Rattle.std.specs.Prelude.{◌≡◌, ℕ, ◌<◌, ◌≤◌, List, [], ◌∷◌, Some}
use Rattle.opa_date.specs.declared.TheConstants.{DAYS}
use Rattle.opa_line.specs.Lines.{at}

-- f's values from where the old line ends, and below day `to`
pub record Reaches {X : Type 0} (old : ℕ × List (ℕ × X)) (to : ℕ) (f : ℕ → X) (new : ℕ × List (ℕ × X)) : Type 0 where
  pub upto : new.0 ≡ to
  pub before : (d : ℕ) → d < old.0 → at new.1 d ≡ at old.1 d
  pub from : (d : ℕ) → old.0 ≤ d → d < to → at new.1 d ≡ Some (f d)

-- the day of the first pair, or the calendar's end
abbrev pub start_of : {X : Type 0} → List (ℕ × X) → ℕ
start_of [] = DAYS
start_of (p ∷ l) = p.0
