use Rattle.opa_mean.proofs.LawsOver.{reads_fix_holds}
use Rattle.opa_mean.proofs.laws.reads_fix.Goals as goal

pub returns : goal.returns
returns c = reads_fix_holds
