use Rattle.std.proofs.Common.{◌≡◌, length}
use Rattle.opa_window.specs.Folds.{best_from, is_beaten_of}
use Rattle.opa_mean.proofs.folds.best_from.Given as goal

abbrev pub invariant-loop-value : goal.invariant-loop-value
invariant-loop-value l = best_from (is_beaten_of l.most) l.best l.rest ≡ best_from (is_beaten_of l.most) l.fn.first l.fn.values

abbrev pub decreases-loop-value : goal.decreases-loop-value
decreases-loop-value l = length l.rest
