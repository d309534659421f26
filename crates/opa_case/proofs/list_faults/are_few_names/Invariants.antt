use Rattle.std.specs.Prelude.{◌≡◌, length}
use Rattle.opa_case.specs.Cases.{are_names}
use Rattle.opa_case.proofs.list_faults.are_few_names.Given as goal

abbrev pub invariant-loop-name : goal.invariant-loop-name
invariant-loop-name l = are_names l.fn.names ≡ are_names l.rest

abbrev pub decreases-loop-name : goal.decreases-loop-name
decreases-loop-name l = length l.rest
