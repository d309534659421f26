use Rattle.std.proofs.Common.{◌≡◌, length}
use Rattle.std.specs.Prelude.{flat_map}
use Rattle.opa_tree.specs.FirstFaults.{first_of, first_fault}
use Rattle.opa_rulebase.specs.Checking.Faults.{own_faults}
use Rattle.opa_rulebase.proofs.checking.faults.own_first.Given as goal

abbrev pub invariant-loop-rule : goal.invariant-loop-rule
invariant-loop-rule l = first_of l.first (first_fault (flat_map (own_faults l.model) l.rest)) ≡ first_fault (flat_map (own_faults l.model) l.rules)

abbrev pub decreases-loop-rule : goal.decreases-loop-rule
decreases-loop-rule l = length l.rest
