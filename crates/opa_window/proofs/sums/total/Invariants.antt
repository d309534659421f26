use Rattle.std.proofs.Common.{length}
use Rattle.opa_window.specs.Runs.{shown}
use Rattle.opa_window.proofs.Totals.{Summing}
use Rattle.opa_window.proofs.sums.total.Given as goal

abbrev pub invariant-loop-rest : goal.invariant-loop-rest
invariant-loop-rest l = Summing 9223372036854775808 (shown l.fn.runs) (shown l.rest) l.sum

abbrev pub decreases-loop-rest : goal.decreases-loop-rest
decreases-loop-rest l = length l.rest
