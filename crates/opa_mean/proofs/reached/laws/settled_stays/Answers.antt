use Rattle.opa_mean.proofs.reached.Completed.{settled_stays}
use Rattle.opa_mean.proofs.reached.laws.settled_stays.Goals as goal

pub returns : goal.returns
returns c = settled_stays
