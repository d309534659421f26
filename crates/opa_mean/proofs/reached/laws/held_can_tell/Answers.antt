use Rattle.opa_mean.proofs.reached.ListsBegin.{held_can_tell}
use Rattle.opa_mean.proofs.reached.laws.held_can_tell.Goals as goal

pub returns : goal.returns
returns c = held_can_tell
