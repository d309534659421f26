use Rattle.std.proofs.Common.{length}
use Rattle.opa_window.specs.Marks.{has_mark}
use Rattle.opa_window.specs.Runs.{shown}
use Rattle.opa_window.proofs.RunSteps.{Occurring}
use Rattle.opa_window.proofs.marks.occurs.Given as goal

abbrev pub invariant-loop-rest : goal.invariant-loop-rest
invariant-loop-rest l = Occurring (has_mark l.mark) (shown l.fn.runs) (shown l.rest)

abbrev pub decreases-loop-rest : goal.decreases-loop-rest
decreases-loop-rest l = length l.rest
