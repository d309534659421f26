use Rattle.std.proofs.Common.{◌+◌, length}
use Rattle.opa_date.specs.declared.TheConstants.{DAYS}
use Rattle.opa_line.proofs.Zipping.{Joined}
use Rattle.opa_line.proofs.combine.joined.Given as goal

abbrev pub invariant-loop-day : goal.invariant-loop-day
invariant-loop-day g l = Joined g.F.Fn l.f DAYS l.fn.first l.fn.second l.x l.y l.left l.right l.out

abbrev pub decreases-loop-day : goal.decreases-loop-day
decreases-loop-day g l = length l.left + length l.right
