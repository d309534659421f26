use Rattle.opa_session.proofs.settlement.Settles.{current_still}
use Rattle.opa_session.proofs.settlement.laws.same_are_current.Goals as goal

pub returns : goal.returns
returns c = current_still
