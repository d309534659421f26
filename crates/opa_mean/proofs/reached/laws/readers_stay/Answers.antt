use Rattle.opa_mean.proofs.reached.Freshness.{readers_stay}
use Rattle.opa_mean.proofs.reached.laws.readers_stay.Goals as goal

pub returns : goal.returns
returns c = readers_stay
