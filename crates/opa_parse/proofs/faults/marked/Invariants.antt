use Rattle.std.proofs.Common.{◌≡◌, length}
use Rattle.opa_tree.specs.FirstFaults.{first_of, first_fault}
use Rattle.opa_parse.specs.RuleFaults.{marked}
use Rattle.opa_parse.proofs.faults.marked.Given as goal

abbrev pub invariant-loop-mark : goal.invariant-loop-mark
invariant-loop-mark l = first_of l.first (first_fault (marked l.file l.rest)) ≡ first_fault (marked l.file l.marks)

abbrev pub decreases-loop-mark : goal.decreases-loop-mark
decreases-loop-mark l = length l.rest
