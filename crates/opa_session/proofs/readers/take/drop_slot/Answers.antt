use Rattle.opa_session.proofs.readers.SlotSets.{set_taken}
use Rattle.opa_session.proofs.readers.take.drop_slot.Goals as goal

pub returns : goal.returns
returns c = set_taken c.args.slots.now c.remove.new.self c.args.slot.now c.remove.ensures.updates.0
