use Rattle.std.proofs.Common.{sym, ◌∙◌}
use Rattle.opa_session.proofs.settlement.MarkingLive.{live_one, live_none}
use Rattle.opa_session.proofs.settlement.living.mark_if_live.Goals as goal

pub returns-in_ok-mark_one : goal.returns-in_ok-mark_one
returns-in_ok-mark_one g c =
    live_one c.args.base.now (g.N.Next.next c.args.next.now) c.args.slot.now c.args.tasks.now c.mark_one.new.tasks (sym c.live-live.ensures ∙ c.if-live.true) c.in_ok-mark_one.ensures

pub returns-else-live : goal.returns-else-live
returns-else-live g c =
    live_none c.args.base.now (g.N.Next.next c.args.next.now) c.args.slot.now c.args.tasks.now (sym c.live-live.ensures ∙ c.if-live.false)
