use Rattle.opa_mean.proofs.SlotsAre.{slots_are_live}
use Rattle.opa_mean.proofs.slot_laws.slots_are_live.Goals as goal

pub returns : goal.returns
returns c = slots_are_live
