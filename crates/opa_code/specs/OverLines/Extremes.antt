-- What the greatest or the least of values is told from.
use Rattle.std.specs.Prelude.{◌≡◌, ◌||◌, Bool, cond, List, [], ◌∷◌}
use Rattle.std.specs.List.{list_any}
use Rattle.opa_value.specs.declared.value.Value.{Value}
use Rattle.opa_value.specs.declared.value.Value.TheVariants.{Unknown, Uncertain}
use Rattle.opa_value.specs.Truth.{is_unknown, is_uncertain}
use Rattle.opa_code.specs.OverLines.Tallies.{ArePeaks, AreBothPeaks, best_told}
use Rattle.opa_code.specs.declared.over_lines.bests.Bests.{Bests}
use Rattle.opa_code.specs.declared.over_lines.tally.Tally.{Tally}

pub record AreBests (most : Bool) (vs : List Value) (t : Bests) : Type 0 where
  pub unknown : t.unknown ≡ list_any is_unknown vs
  pub uncertain : t.uncertain ≡ list_any is_uncertain vs
  pub peaks : ArePeaks most vs t.peaks

-- of a value alone
pub record IsOneBest (v : Value) (t : Bests) : Type 0 where
  pub bests : (most : Bool) → AreBests most (v ∷ []) t

-- of the values of two
pub record AreBothBests (most : Bool) (s t r : Bests) : Type 0 where
  pub unknown : r.unknown ≡ (s.unknown || t.unknown)
  pub uncertain : r.uncertain ≡ (s.uncertain || t.uncertain)
  pub peaks : AreBothPeaks most s.peaks t.peaks r.peaks

abbrev pub bests_in : Tally → Bests
bests_in t = record { unknown = t.marks.unknown; uncertain = t.marks.uncertain; peaks = t.peaks }

-- the best, where this is the first value
abbrev pub told_best : Bests → Value → Value
told_best t first = cond t.unknown Unknown (cond t.uncertain Uncertain (best_told t.peaks first))
