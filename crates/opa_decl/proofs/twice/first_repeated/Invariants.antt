use Rattle.std.proofs.Common.{◌≡◌, [], length}
use Rattle.opa_tree.specs.FirstFaults.{first_of, first_fault}
use Rattle.opa_decl.specs.Faults.{repeated}
use Rattle.opa_decl.proofs.twice.first_repeated.Given as goal

abbrev pub invariant-loop-name : goal.invariant-loop-name
invariant-loop-name l = first_of l.first (first_fault (repeated l.seen l.rest)) ≡ first_fault (repeated [] l.names)

abbrev pub decreases-loop-name : goal.decreases-loop-name
decreases-loop-name l = length l.rest
