use Rattle.opa_mean.proofs.ChangesAre.{nothing_is_dirty}
use Rattle.opa_mean.proofs.slot_laws.nothing_is_dirty.Goals as goal

pub returns : goal.returns
returns c = nothing_is_dirty
