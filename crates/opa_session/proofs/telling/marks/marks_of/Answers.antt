use Rattle.std.proofs.Common.{subst}
use Rattle.opa_io.proofs.Places.{take_whole}
use Rattle.opa_session.specs.Telling.Among.{AreMarked}
use Rattle.opa_session.proofs.telling.Taking.{marked_next}
use Rattle.opa_session.proofs.telling.marks.marks_of.Goals as goal

pub loop-slot-preserved : goal.loop-slot-preserved
loop-slot-preserved c =
    marked_next c.args.slots.now c.loop-slot.slot-index c.slot-item.result c.loop-slot.marks c.insert.new.self c.in_ok-inst.inst c.loop-slot-test.true c.slot-item.is c.loop-slot.invariant c.in_ok-inst.ensures c.in_ok-insert.ensures.ok

pub returns : goal.returns
returns c = subst (λ xs. AreMarked xs c.loop-slot.marks) (take_whole c.args.slots.now c.loop-slot.slot-index c.loop-slot-test.false) c.loop-slot.invariant
