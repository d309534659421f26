use Rattle.std.proofs.Common.{◌+◌, ◌*◌, length}
use Rattle.std.specs.Prelude.{reverse}
use Rattle.opa_sentence.proofs.Machine.{Keeps}
use Rattle.opa_parse.specs.GroupTable.{production, resume}
use Rattle.opa_parse.proofs.reader.read.Given as goal

abbrev pub invariant-loop-stack : goal.invariant-loop-stack
invariant-loop-stack l = Keeps production (resume l.names) l.fn.start l.fn.lines l.sort l.rest (reverse l.stack)

abbrev pub decreases-loop-stack : goal.decreases-loop-stack
decreases-loop-stack l = 2 * length l.rest + length l.stack
