use Rattle.opa_mean.proofs.goals.NeedsKnown.{relevant_declared}
use Rattle.opa_mean.proofs.goals.laws.asked_is_declared.Goals as goal

pub returns : goal.returns
returns c = λ r held is a. relevant_declared r held is a
