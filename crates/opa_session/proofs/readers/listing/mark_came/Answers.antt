use Rattle.std.proofs.Common.{subst}
use Rattle.opa_io.proofs.Places.{take_whole}
use Rattle.opa_case.specs.Live.{Population}
use Rattle.opa_session.specs.Readers.Waits.{IsSlotOfOne, WaitsBesides}
use Rattle.opa_session.proofs.readers.Coming.{came_none, came_next}
use Rattle.opa_session.proofs.readers.listing.mark_came.Goals as goal

pub loop-inst-init : goal.loop-inst-init
loop-inst-init c = came_none c.args.base.now c.args.tasks.now

pub loop-inst-preserved : goal.loop-inst-preserved
loop-inst-preserved c =
    came_next c.args.base.now c.args.came.now c.loop-inst.inst-index c.loop-inst-item.result c.args.tasks.now c.loop-inst.tasks c.mark_slots_of.new.tasks c.loop-inst-test.true c.loop-inst-item.is c.loop-inst.invariant c.in_ok-mark_slots_of.ensures

pub returns : goal.returns
returns c =
    subst (λ (xs : Population). WaitsBesides c.args.base.now (IsSlotOfOne c.args.base.now xs) c.args.tasks.now c.loop-inst.tasks) (take_whole c.args.came.now c.loop-inst.inst-index c.loop-inst-test.false) c.loop-inst.invariant
