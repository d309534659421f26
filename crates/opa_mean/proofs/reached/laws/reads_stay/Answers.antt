use Rattle.opa_mean.proofs.reached.Reaching.{reads_stay}
use Rattle.opa_mean.proofs.reached.laws.reads_stay.Goals as goal

pub returns : goal.returns
returns c = reads_stay
