use Rattle.opa_mean.proofs.SlotCounts.{slots_counted}
use Rattle.opa_mean.proofs.slot_laws.slots_counted.Goals as goal

pub returns : goal.returns
returns c = slots_counted
