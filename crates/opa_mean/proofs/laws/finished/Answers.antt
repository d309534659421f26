use Rattle.opa_mean.proofs.LawsOver.{finished_holds}
use Rattle.opa_mean.proofs.laws.finished.Goals as goal

pub returns : goal.returns
returns c = finished_holds
