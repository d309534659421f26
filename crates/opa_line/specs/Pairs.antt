-- What is wrong with pairs that should be a line.
use Rattle.std.specs.Prelude.{ℕ, Bool, true, false, cond, nat_lt, ◌==◌, List, [], ◌∷◌, Option, None, Some}
use Rattle.opa_date.specs.declared.TheConstants.{DAYS}
use Rattle.opa_line.specs.declared.pairs.LineFault.{LineFault}
use Rattle.opa_line.specs.declared.pairs.LineFault.TheVariants.{Empty, FirstDay, Order, Range}

module _ {X : Type 0} where
  -- each day is above its predecessor, and the first above d
  abbrev pub rises_from : ℕ → List (ℕ × X) → Bool
  rises_from d [] = true
  rises_from d (p ∷ l) = cond (nat_lt d p.0) (rises_from p.0 l) false

  abbrev pub all_below : ℕ → List (ℕ × X) → Bool
  all_below end [] = true
  all_below end (p ∷ l) = cond (nat_lt p.0 end) (all_below end l) false

  -- the first fault: no pair, a first day that isn't 0, a day that isn't above its predecessor, a day past the calendar
  abbrev pub fault_of : List (ℕ × X) → Option LineFault
  fault_of [] = Some Empty
  fault_of (p ∷ l) = cond (p.0 == 0) (cond (rises_from p.0 l) (cond (all_below DAYS (p ∷ l)) None (Some Range)) (Some Order)) (Some FirstDay)
