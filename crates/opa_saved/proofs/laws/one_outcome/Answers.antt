use Rattle.opa_saved.proofs.Outcomes.{one_loaded, one_fault, loaded_or_fault}
use Rattle.opa_saved.proofs.laws.one_outcome.Goals as goal

pub returns-clause-loaded : goal.returns-clause-loaded
returns-clause-loaded c = one_loaded

pub returns-clause-fault : goal.returns-clause-fault
returns-clause-fault c = one_fault

pub returns-clause-apart : goal.returns-clause-apart
returns-clause-apart c = loaded_or_fault
