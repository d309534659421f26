use Rattle.opa_verify.proofs.support.Upholding.{held_up_fixes_holds}
use Rattle.opa_verify.proofs.support.laws.held_up_fixes.Goals as goal

pub returns : goal.returns
returns c = held_up_fixes_holds
