use Rattle.opa_verify.proofs.spelling.Breaking.{one_first_fault_holds}
use Rattle.opa_verify.proofs.spelling.laws.one_first_fault.Goals as goal

pub returns : goal.returns
returns c = one_first_fault_holds
