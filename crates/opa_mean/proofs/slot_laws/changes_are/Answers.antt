use Rattle.opa_mean.proofs.ChangesAre.{changes_are}
use Rattle.opa_mean.proofs.slot_laws.changes_are.Goals as goal

pub returns : goal.returns
returns c = changes_are
