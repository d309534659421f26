use Rattle.opa_session.proofs.telling.Onceness.{told_once}
use Rattle.opa_session.proofs.telling.laws.told_once.Goals as goal

pub returns : goal.returns
returns c = told_once
