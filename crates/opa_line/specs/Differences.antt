-- Where two lines differ.
use Rattle.std.specs.Prelude.{◌≡◌, ◌≢◌, ℕ, ◌<◌, List, Option, None, Some}
use Rattle.opa_line.specs.Lines.{at}

-- the least day at which the values differ, and none where the lines are equal
abbrev pub IsFirstDifference : {X : Type 0} → ℕ → List (ℕ × X) → List (ℕ × X) → Option ℕ → Type 0
IsFirstDifference end l m None = l ≡ m
IsFirstDifference end l m (Some d) = (d < end) × (at l d ≢ at m d) × ((e : ℕ) → e < d → at l e ≡ at m e)
