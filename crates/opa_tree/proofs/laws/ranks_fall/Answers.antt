use Rattle.opa_tree.proofs.LawsHold.{ranks_fall_holds}
use Rattle.opa_tree.proofs.laws.ranks_fall.Goals as goal

pub returns : goal.returns
returns c = ranks_fall_holds
