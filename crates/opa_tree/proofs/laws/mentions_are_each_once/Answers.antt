use Rattle.opa_tree.proofs.LawsHold.{mentions_are_each_once_holds}
use Rattle.opa_tree.proofs.laws.mentions_are_each_once.Goals as goal

pub returns : goal.returns
returns c = mentions_are_each_once_holds
