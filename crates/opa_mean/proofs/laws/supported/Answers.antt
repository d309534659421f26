use Rattle.opa_mean.proofs.LawsOver.{supported_holds}
use Rattle.opa_mean.proofs.laws.supported.Goals as goal

pub returns : goal.returns
returns c = supported_holds
