use Rattle.opa_verify.proofs.support.Orderly.{held_up_supports_holds}
use Rattle.opa_verify.proofs.support.laws.held_up_supports.Goals as goal

pub returns : goal.returns
returns c = held_up_supports_holds
