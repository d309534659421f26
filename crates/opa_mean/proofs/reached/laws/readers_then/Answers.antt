use Rattle.opa_mean.proofs.reached.ListsBegin.{readers_then}
use Rattle.opa_mean.proofs.reached.laws.readers_then.Goals as goal

pub returns : goal.returns
returns c = readers_then
