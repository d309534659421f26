use Rattle.opa_mean.proofs.reached.Freshness.{nothing_is_fresh}
use Rattle.opa_mean.proofs.reached.laws.nothing_is_fresh.Goals as goal

pub returns : goal.returns
returns c = nothing_is_fresh
