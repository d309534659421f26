use Rattle.std.proofs.Common.{◌≡◌, ◌++◌, length}
use Rattle.opa_saved.specs.Loading.{answer_refusals}
use Rattle.opa_saved.proofs.answer_refusals.add_answer_refusals.Given as goal

abbrev pub invariant-loop-entry : goal.invariant-loop-entry
invariant-loop-entry l = l.refusals.items ++ answer_refusals l.model l.ruled l.living l.rest ≡ l.fn.refusals.items ++ answer_refusals l.model l.ruled l.living l.fn.answers

abbrev pub decreases-loop-entry : goal.decreases-loop-entry
decreases-loop-entry l = length l.rest
