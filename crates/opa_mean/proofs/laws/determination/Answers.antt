use Rattle.opa_mean.proofs.LawsOver.{determination_holds}
use Rattle.opa_mean.proofs.laws.determination.Goals as goal

pub returns : goal.returns
returns c = determination_holds
