use Rattle.std.proofs.Common.{take}
use Rattle.opa_session.specs.Settlement.Tasks.{Marks}
use Rattle.opa_session.proofs.settlement.starting.mark.Given as goal

abbrev pub invariant-loop-slot : goal.invariant-loop-slot
invariant-loop-slot l = Marks l.base (take l.slot-index l.slots) l.fn.tasks l.tasks
