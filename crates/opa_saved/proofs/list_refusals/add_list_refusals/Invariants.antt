use Rattle.std.proofs.Common.{◌≡◌, ◌++◌, length}
use Rattle.opa_saved.specs.Loading.{list_refusals}
use Rattle.opa_saved.proofs.list_refusals.add_list_refusals.Given as goal

abbrev pub invariant-loop-entry : goal.invariant-loop-entry
invariant-loop-entry l = l.refusals.items ++ list_refusals l.model l.living l.rest ≡ l.fn.refusals.items ++ list_refusals l.model l.living l.fn.lists

abbrev pub decreases-loop-entry : goal.decreases-loop-entry
decreases-loop-entry l = length l.rest
