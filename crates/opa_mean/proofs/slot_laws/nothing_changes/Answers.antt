use Rattle.opa_mean.proofs.ChangesAre.{nothing_changes}
use Rattle.opa_mean.proofs.slot_laws.nothing_changes.Goals as goal

pub returns : goal.returns
returns c = nothing_changes
