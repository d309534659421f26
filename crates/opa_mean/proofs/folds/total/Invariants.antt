use Rattle.std.proofs.Common.{length}
use Rattle.opa_mean.proofs.Folding.{Summing}
use Rattle.opa_mean.proofs.folds.total.Given as goal

abbrev pub invariant-loop-value : goal.invariant-loop-value
invariant-loop-value l = Summing l.fn.values l.rest l.sum

abbrev pub decreases-loop-value : goal.decreases-loop-value
decreases-loop-value l = length l.rest
