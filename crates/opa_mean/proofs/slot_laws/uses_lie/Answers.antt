use Rattle.opa_mean.proofs.ConeLying.{used_lie}
use Rattle.opa_mean.proofs.slot_laws.uses_lie.Goals as goal

pub returns : goal.returns
returns c = used_lie
