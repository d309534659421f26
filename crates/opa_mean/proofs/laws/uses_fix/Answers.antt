use Rattle.opa_mean.proofs.LawsHold.{uses_fix_holds}
use Rattle.opa_mean.proofs.laws.uses_fix.Goals as goal

pub returns : goal.returns
returns c = uses_fix_holds
