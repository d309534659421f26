use Rattle.opa_mean.proofs.reached.ListsBegin.{new_can_tell}
use Rattle.opa_mean.proofs.reached.laws.new_can_tell.Goals as goal

pub returns : goal.returns
returns c = new_can_tell
