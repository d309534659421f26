use Rattle.opa_session.proofs.store.Leaving.{dropped_are_current}
use Rattle.opa_session.proofs.store.laws.dropped_are_current.Goals as goal

pub returns : goal.returns
returns c = dropped_are_current
