use Rattle.std.proofs.Common.{◌≡◌, length}
use Rattle.std.specs.Prelude.{flat_map}
use Rattle.opa_tree.specs.FirstFaults.{first_of, first_fault}
use Rattle.opa_decl.specs.Faults.{over}
use Rattle.opa_decl.proofs.over.over_all.Given as goal

abbrev pub invariant-loop-name : goal.invariant-loop-name
invariant-loop-name l = first_of l.first (first_fault (flat_map (over 1000) l.rest)) ≡ first_fault (flat_map (over 1000) l.names)

abbrev pub decreases-loop-name : goal.decreases-loop-name
decreases-loop-name l = length l.rest
