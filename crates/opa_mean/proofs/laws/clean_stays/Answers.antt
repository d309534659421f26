use Rattle.opa_mean.proofs.LawsOver.{clean_stays_holds}
use Rattle.opa_mean.proofs.laws.clean_stays.Goals as goal

pub returns : goal.returns
returns c = clean_stays_holds
