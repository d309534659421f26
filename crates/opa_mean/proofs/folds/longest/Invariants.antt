use Rattle.opa_mean.proofs.Folding.{Running}
use Rattle.opa_mean.proofs.folds.longest.Given as goal

abbrev pub invariant-loop-place : goal.invariant-loop-place
invariant-loop-place l = Running l.fn.values l.place l.ahead l.most

abbrev pub decreases-loop-place : goal.decreases-loop-place
decreases-loop-place l = l.place
