use Rattle.std.proofs.Common.{◌+◌, length}
use Rattle.opa_date.specs.declared.TheConstants.{DAYS}
use Rattle.opa_line.proofs.Differing.{Equal}
use Rattle.opa_line.proofs.line.Line.first_difference.Given as goal

abbrev pub invariant-loop-day : goal.invariant-loop-day
invariant-loop-day g l = Equal DAYS l.fn.self l.fn.other l.since l.x l.y l.left l.right

abbrev pub decreases-loop-day : goal.decreases-loop-day
decreases-loop-day g l = length l.left + length l.right
