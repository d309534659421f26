use Rattle.opa_case.proofs.Stepping.{step_is_clean}
use Rattle.opa_case.proofs.laws.step_is_clean.Goals as goal

pub returns : goal.returns
returns c = step_is_clean
