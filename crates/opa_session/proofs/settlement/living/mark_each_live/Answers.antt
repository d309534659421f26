use Rattle.opa_session.proofs.settlement.MarkingLive.{live_next, live_end}
use Rattle.opa_session.proofs.settlement.living.mark_each_live.Goals as goal

pub loop-slot-preserved : goal.loop-slot-preserved
loop-slot-preserved g c =
    live_next c.args.base.now (g.N.Next.next c.args.next.now) c.args.slots.now.keys c.in-Some.slot.now c.next.new.self c.loop-slot.slot-iterator c.args.tasks.now c.loop-slot.tasks c.mark_if_live.new.tasks c.in-Some.ensures.steps c.loop-slot.invariant c.in_ok-mark_if_live.ensures

pub returns : goal.returns
returns g c = live_end c.args.base.now (g.N.Next.next c.args.next.now) c.args.slots.now.keys c.loop-slot.slot-iterator c.args.tasks.now c.loop-slot.tasks c.in-None.ensures.steps.0 c.loop-slot.invariant
