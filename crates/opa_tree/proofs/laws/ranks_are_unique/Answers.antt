use Rattle.opa_tree.proofs.LawsHold.{ranks_are_unique_holds}
use Rattle.opa_tree.proofs.laws.ranks_are_unique.Goals as goal

pub returns : goal.returns
returns c = ranks_are_unique_holds
