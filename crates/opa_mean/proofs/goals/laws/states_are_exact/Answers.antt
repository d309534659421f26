use Rattle.opa_mean.proofs.goals.Knowing.{states_exact}
use Rattle.opa_mean.proofs.goals.laws.states_are_exact.Goals as goal

pub returns : goal.returns
returns c = λ r held a. states_exact r held a
