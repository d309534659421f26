use Rattle.opa_mean.proofs.goals.NeedsKnown.{next_is_declared}
use Rattle.opa_mean.proofs.goals.laws.next_is_declared.Goals as goal

pub returns : goal.returns
returns c = λ r held is q. next_is_declared r held is q
