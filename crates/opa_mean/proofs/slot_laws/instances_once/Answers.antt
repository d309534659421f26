use Rattle.opa_mean.proofs.SlotsAre.{instances_once}
use Rattle.opa_mean.proofs.slot_laws.instances_once.Goals as goal

pub returns : goal.returns
returns c = instances_once
