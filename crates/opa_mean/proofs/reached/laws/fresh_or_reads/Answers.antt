use Rattle.opa_mean.proofs.reached.Freshness.{fresh_or_reads}
use Rattle.opa_mean.proofs.reached.laws.fresh_or_reads.Goals as goal

pub returns : goal.returns
returns c = fresh_or_reads
