use Rattle.opa_case.proofs.Among.{live_by_lists}
use Rattle.opa_case.proofs.laws.live_by_lists.Goals as goal

pub returns : goal.returns
returns c = live_by_lists
