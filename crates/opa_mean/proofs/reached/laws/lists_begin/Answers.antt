use Rattle.opa_mean.proofs.reached.ListsBegin.{lists_begin}
use Rattle.opa_mean.proofs.reached.laws.lists_begin.Goals as goal

pub returns : goal.returns
returns c = lists_begin
