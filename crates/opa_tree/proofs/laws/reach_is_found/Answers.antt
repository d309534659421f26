use Rattle.opa_tree.proofs.LawsHold.{reach_is_found_holds}
use Rattle.opa_tree.proofs.laws.reach_is_found.Goals as goal

pub returns : goal.returns
returns c = reach_is_found_holds
