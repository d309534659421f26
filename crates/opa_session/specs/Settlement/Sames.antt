-- Lines that are the same, slot by slot.
use Rattle.opa_case.specs.Cases.{CaseView}
use Rattle.opa_tree.specs.declared.rulebase.Rulebase.{Rulebase}
use Rattle.opa_mean.specs.Reached.Settling.{AreCurrent, Lines, SameLines}

-- where some lines are current, the same lines are
abbrev pub SameAreCurrent : Type 0
SameAreCurrent = (r : Rulebase) (c : CaseView) (old new : Lines) → SameLines old new → AreCurrent r c old → AreCurrent r c new
