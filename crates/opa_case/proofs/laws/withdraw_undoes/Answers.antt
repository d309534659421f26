use Rattle.opa_case.proofs.Stepping.{withdraw_undoes}
use Rattle.opa_case.proofs.laws.withdraw_undoes.Goals as goal

pub returns : goal.returns
returns c = withdraw_undoes
