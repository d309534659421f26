use Rattle.opa_session.proofs.settlement.Marking.{marks_one}
use Rattle.opa_session.proofs.settlement.starting.mark_one.Goals as goal

pub returns : goal.returns
returns c = marks_one c.args.base.now c.args.slot.now c.args.tasks.now c.add_slot.new.tasks c.in_ok-add_slot.ensures
