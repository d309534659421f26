use Rattle.opa_laws.proofs.decided.Declared.{one_declaration_fault_holds}
use Rattle.opa_laws.proofs.decided.opening_laws.one_declaration_fault.Goals as goal

pub returns : goal.returns
returns c = one_declaration_fault_holds
