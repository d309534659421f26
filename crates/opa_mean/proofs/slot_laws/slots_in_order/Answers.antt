use Rattle.opa_mean.proofs.SlotsAre.{slots_in_order}
use Rattle.opa_mean.proofs.slot_laws.slots_in_order.Goals as goal

pub returns : goal.returns
returns c = slots_in_order
