use Rattle.opa_tree.proofs.LawsHold.{rules_are_found_holds}
use Rattle.opa_tree.proofs.laws.rules_are_found.Goals as goal

pub returns : goal.returns
returns c = rules_are_found_holds
