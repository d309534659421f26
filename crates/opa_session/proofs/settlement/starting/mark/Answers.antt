use Rattle.opa_session.proofs.settlement.Marking.{marks_next}
use Rattle.opa_session.proofs.settlement.starting.mark.Goals as goal

pub loop-slot-preserved : goal.loop-slot-preserved
loop-slot-preserved c =
    marks_next c.args.base.now c.args.slots.now c.loop-slot.slot-index c.slot-item.result _ c.loop-slot.tasks c.mark_one.new.tasks c.loop-slot-test.true c.slot-item.is c.loop-slot.invariant c.in_ok-mark_one.ensures
