use Rattle.opa_tree.proofs.FirstFaultLaws.{first_fault_is_first_holds}
use Rattle.opa_tree.proofs.first.first_fault_is_first.Goals as goal

pub returns : goal.returns
returns c = first_fault_is_first_holds
