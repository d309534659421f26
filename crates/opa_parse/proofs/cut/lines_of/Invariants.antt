use Rattle.std.proofs.Common.{length}
use Rattle.opa_parse.proofs.CutOnce.{AreLast}
use Rattle.opa_parse.proofs.cut.lines_of.Given as goal

abbrev pub invariant-loop-front : goal.invariant-loop-front
invariant-loop-front l = AreLast l.names l.lines l.rest l.read

abbrev pub decreases-loop-front : goal.decreases-loop-front
decreases-loop-front l = length l.rest
