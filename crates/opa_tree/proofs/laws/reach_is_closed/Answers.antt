use Rattle.opa_tree.proofs.LawsHold.{reach_is_closed_holds}
use Rattle.opa_tree.proofs.laws.reach_is_closed.Goals as goal

pub returns : goal.returns
returns c = reach_is_closed_holds
