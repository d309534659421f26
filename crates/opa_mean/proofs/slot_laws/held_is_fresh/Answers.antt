use Rattle.opa_mean.proofs.HeldFresh.{held_is_fresh}
use Rattle.opa_mean.proofs.slot_laws.held_is_fresh.Goals as goal

pub returns : goal.returns
returns c = held_is_fresh
