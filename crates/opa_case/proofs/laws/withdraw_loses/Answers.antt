use Rattle.opa_case.proofs.Losing.{withdraw_loses}
use Rattle.opa_case.proofs.laws.withdraw_loses.Goals as goal

pub returns : goal.returns
returns c = withdraw_loses
