use Rattle.opa_mean.proofs.ChangesAre.{line_is_one}
use Rattle.opa_mean.proofs.slot_laws.line_is_one.Goals as goal

pub returns : goal.returns
returns c = line_is_one
