use Rattle.opa_mean.proofs.reached.Ending.{laid_stay_current}
use Rattle.opa_mean.proofs.reached.laws.laid_stay_current.Goals as goal

pub returns : goal.returns
returns c = laid_stay_current
