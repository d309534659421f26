use Rattle.opa_mean.proofs.goals.Reaching.{free_is_found}
use Rattle.opa_mean.proofs.goals.laws.free_is_found.Goals as goal

pub returns : goal.returns
returns c = free_is_found
