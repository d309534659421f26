use Rattle.opa_mean.proofs.LawsOver.{relevant_holds}
use Rattle.opa_mean.proofs.laws.relevant.Goals as goal

pub returns : goal.returns
returns c = relevant_holds
