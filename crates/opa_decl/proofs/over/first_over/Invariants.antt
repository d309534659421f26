use Rattle.std.proofs.Common.{◌≡◌, length}
use Rattle.std.specs.Prelude.{flat_map}
use Rattle.opa_tree.specs.FirstFaults.{first_of, first_fault}
use Rattle.opa_decl.specs.Faults.{limit_faults}
use Rattle.opa_decl.proofs.over.first_over.Given as goal

abbrev pub invariant-loop-item : goal.invariant-loop-item
invariant-loop-item l = first_of l.first (first_fault (flat_map limit_faults l.rest)) ≡ first_fault (flat_map limit_faults l.items)

abbrev pub decreases-loop-item : goal.decreases-loop-item
decreases-loop-item l = length l.rest
