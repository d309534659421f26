use Rattle.opa_mean.proofs.ConeLying.{cone_lies}
use Rattle.opa_mean.proofs.slot_laws.cone_lies.Goals as goal

pub returns : goal.returns
returns c = cone_lies
