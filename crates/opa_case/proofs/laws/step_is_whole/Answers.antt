use Rattle.opa_case.proofs.Whole.{step_is_whole}
use Rattle.opa_case.proofs.laws.step_is_whole.Goals as goal

pub returns : goal.returns
returns c = step_is_whole
