use Rattle.opa_mean.proofs.LawsOver.{monotone_holds}
use Rattle.opa_mean.proofs.laws.monotone.Goals as goal

pub returns : goal.returns
returns c = monotone_holds
