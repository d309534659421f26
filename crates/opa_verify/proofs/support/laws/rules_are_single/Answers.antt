use Rattle.opa_verify.proofs.support.Singling.{rules_are_single_holds}
use Rattle.opa_verify.proofs.support.laws.rules_are_single.Goals as goal

pub returns : goal.returns
returns c = rules_are_single_holds
