use Rattle.opa_session.specs.Telling.Wanted.{has_wanted}
use Rattle.opa_session.proofs.telling.Upward.{wanted_next}
use Rattle.opa_session.proofs.telling.sought.sought_by.Goals as goal

pub loop-slot-preserved : goal.loop-slot-preserved
loop-slot-preserved g c = wanted_next (g.K.Lined.over c.args.held.now).live c.args.slots.now c.loop-slot.slot-index c.slot-item.result (has_wanted c.loop-slot.sought.wanted) (has_wanted c.add_upward.new.sought.wanted) c.loop-slot-test.true c.slot-item.is c.loop-slot.invariant c.in_ok-add_upward.ensures
