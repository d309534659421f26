use Rattle.opa_tree.proofs.FirstFaultLaws.{first_fault-append}
use Rattle.opa_tree.proofs.first.first_of_parts.Goals as goal

pub returns : goal.returns
returns c = first_fault-append
