use Rattle.opa_case.proofs.Taking.{forget_takes}
use Rattle.opa_case.proofs.laws.forget_takes.Goals as goal

pub returns : goal.returns
returns c = forget_takes
