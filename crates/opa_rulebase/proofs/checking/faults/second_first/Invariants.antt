use Rattle.std.proofs.Common.{◌≡◌, [], take, drop}
use Rattle.opa_tree.specs.FirstFaults.{first_of, first_fault}
use Rattle.opa_rulebase.specs.Checking.Faults.{second_faults, AreMarks}
use Rattle.opa_rulebase.proofs.checking.faults.second_first.Given as goal

abbrev pub invariant-loop-rule : goal.invariant-loop-rule
invariant-loop-rule l =
    AreMarks l.count (take l.rule-index l.rules) l.marks.items
    × (first_of l.first (first_fault (second_faults (take l.rule-index l.rules) (drop l.rule-index l.rules))) ≡ first_fault (second_faults [] l.rules))
