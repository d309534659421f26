use Rattle.opa_saved.proofs.OrderLaws as order
use Rattle.opa_saved.proofs.laws.any_order.Goals as goal

pub returns-clause-apart : goal.returns-clause-apart
returns-clause-apart c = order.read_apart

pub returns-clause-order : goal.returns-clause-order
returns-clause-order c = order.any_order
