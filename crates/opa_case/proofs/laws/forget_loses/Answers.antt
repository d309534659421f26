use Rattle.opa_case.proofs.Losing.{forget_loses}
use Rattle.opa_case.proofs.laws.forget_loses.Goals as goal

pub returns : goal.returns
returns c = forget_loses
