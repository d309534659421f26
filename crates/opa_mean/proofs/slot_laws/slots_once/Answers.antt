use Rattle.opa_mean.proofs.SlotsAre.{slots_once}
use Rattle.opa_mean.proofs.slot_laws.slots_once.Goals as goal

pub returns : goal.returns
returns c = slots_once
