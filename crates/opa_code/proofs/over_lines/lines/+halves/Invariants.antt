use Rattle.std.proofs.Common.{length}
use Rattle.opa_code.proofs.over_lines.lines.+halves.Given as goal

abbrev pub decreases-bests_over : goal.decreases-bests_over
decreases-bests_over l = length l.operands.now
