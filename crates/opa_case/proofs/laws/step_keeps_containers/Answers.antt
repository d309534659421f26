use Rattle.opa_case.proofs.Moving.{containers_stay}
use Rattle.opa_case.proofs.laws.step_keeps_containers.Goals as goal

pub returns : goal.returns
returns c = containers_stay
