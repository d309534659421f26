use Rattle.opa_mean.proofs.reached.Lowering.{reads_are_lower}
use Rattle.opa_mean.proofs.reached.laws.reads_are_lower.Goals as goal

pub returns : goal.returns
returns c = reads_are_lower
