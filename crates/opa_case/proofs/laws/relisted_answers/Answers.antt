use Rattle.opa_case.proofs.Overlaid.{relisted_answers}
use Rattle.opa_case.proofs.laws.relisted_answers.Goals as goal

pub returns : goal.returns
returns c = relisted_answers
