use Rattle.std.proofs.Common.{length}
use Rattle.opa_verify.specs.Spelling.Printed.{head_line}
use Rattle.opa_verify.proofs.spelling.Whole.{SoFar}
use Rattle.opa_verify.proofs.spelling.reading.lines_of.Given as goal

abbrev pub invariant-loop-line : goal.invariant-loop-line
invariant-loop-line l = SoFar l.fn.text (head_line l.fn.asked l.fn.day) l.printed l.rest

abbrev pub decreases-loop-line : goal.decreases-loop-line
decreases-loop-line l = length l.rest
