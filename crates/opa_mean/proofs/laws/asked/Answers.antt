use Rattle.opa_mean.proofs.LawsOver.{asked_holds}
use Rattle.opa_mean.proofs.laws.asked.Goals as goal

pub returns : goal.returns
returns c = asked_holds
