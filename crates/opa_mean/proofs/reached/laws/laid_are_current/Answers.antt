use Rattle.opa_mean.proofs.reached.Ending.{laid_are_current}
use Rattle.opa_mean.proofs.reached.laws.laid_are_current.Goals as goal

pub returns : goal.returns
returns c = laid_are_current
