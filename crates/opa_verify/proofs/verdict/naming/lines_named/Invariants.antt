use Rattle.std.proofs.Common.{length}
use Rattle.opa_verify.proofs.verdict.Judged.{Walked}
use Rattle.opa_verify.proofs.verdict.naming.lines_named.Given as goal

abbrev pub invariant-loop-line : goal.invariant-loop-line
invariant-loop-line l = Walked l.base l.fn.printed l.rest l.lines l.place

abbrev pub decreases-loop-line : goal.decreases-loop-line
decreases-loop-line l = length l.rest
