use Rattle.opa_session.proofs.settlement.Marking.{MarksOnward}
use Rattle.opa_session.proofs.settlement.starting.mark_each.Given as goal

abbrev pub invariant-loop-slot : goal.invariant-loop-slot
invariant-loop-slot l = MarksOnward l.base l.slots.keys l.slot-iterator l.fn.tasks l.tasks
