use Rattle.opa_mean.proofs.reached.ListsBegin.{relisted_is_by_lists}
use Rattle.opa_mean.proofs.reached.laws.relisted_is_by_lists.Goals as goal

pub returns : goal.returns
returns c = relisted_is_by_lists
