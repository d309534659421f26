use Rattle.opa_value.proofs.Rounding.{quotient_has, quotient_alone}
use Rattle.opa_value.proofs.laws.quotient_is_nearest.Goals as goal

pub returns-clause-nearest : goal.returns-clause-nearest
returns-clause-nearest c = quotient_has

pub returns-clause-alone : goal.returns-clause-alone
returns-clause-alone c = quotient_alone
