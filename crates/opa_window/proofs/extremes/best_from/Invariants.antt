use Rattle.std.proofs.Common.{length}
use Rattle.opa_window.specs.Folds.{is_beaten_of}
use Rattle.opa_window.specs.Runs.{shown}
use Rattle.opa_window.proofs.RunSteps.{Choosing}
use Rattle.opa_window.proofs.Beaten.{never}
use Rattle.opa_window.proofs.extremes.best_from.Given as goal

abbrev pub invariant-loop-rest : goal.invariant-loop-rest
invariant-loop-rest l = Choosing (is_beaten_of l.most) (never l.most) l.fn.first (shown l.fn.runs) l.best (shown l.rest)

abbrev pub decreases-loop-rest : goal.decreases-loop-rest
decreases-loop-rest l = length l.rest
