use Rattle.opa_session.proofs.telling.Unchanged.{dirty_have_changes}
use Rattle.opa_session.proofs.telling.laws.dirty_have_changes.Goals as goal

pub returns : goal.returns
returns c = dirty_have_changes
