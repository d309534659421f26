use Rattle.opa_mean.proofs.reached.Reaching.{dirty_by_new_reads}
use Rattle.opa_mean.proofs.reached.laws.dirty_by_new_reads.Goals as goal

pub returns : goal.returns
returns c = dirty_by_new_reads
