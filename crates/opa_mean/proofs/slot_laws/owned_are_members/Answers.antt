use Rattle.opa_mean.proofs.SlotCounts.{owned_are_members}
use Rattle.opa_mean.proofs.slot_laws.owned_are_members.Goals as goal

pub returns : goal.returns
returns c = owned_are_members
