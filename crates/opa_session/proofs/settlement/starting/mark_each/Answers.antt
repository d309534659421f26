use Rattle.opa_session.proofs.settlement.Marking.{onward_next, onward_end}
use Rattle.opa_session.proofs.settlement.starting.mark_each.Goals as goal

pub loop-slot-preserved : goal.loop-slot-preserved
loop-slot-preserved c =
    onward_next c.args.base.now c.args.slots.now.keys c.in-Some.slot.now c.next.new.self c.loop-slot.slot-iterator c.args.tasks.now c.loop-slot.tasks c.mark_one.new.tasks c.in-Some.ensures.steps c.loop-slot.invariant c.in_ok-mark_one.ensures

pub returns : goal.returns
returns c = onward_end c.args.base.now c.args.slots.now.keys c.loop-slot.slot-iterator c.args.tasks.now c.loop-slot.tasks c.in-None.ensures.steps.0 c.loop-slot.invariant
