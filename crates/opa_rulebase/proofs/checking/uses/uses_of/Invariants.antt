use Rattle.std.proofs.Common.{take}
use Rattle.opa_rulebase.specs.Checking.Found.{AreUses}
use Rattle.opa_rulebase.proofs.checking.uses.uses_of.Given as goal

abbrev pub invariant-loop-rule : goal.invariant-loop-rule
invariant-loop-rule l = AreUses l.count (take l.rule-index l.rules) l.uses.items
