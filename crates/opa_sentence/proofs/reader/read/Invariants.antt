use Rattle.std.proofs.Common.{◌+◌, length}
use Rattle.std.specs.Prelude.{reverse}
use Rattle.opa_sentence.specs.Cursors.{seen}
use Rattle.opa_sentence.specs.Measures.{bounded}
use Rattle.opa_sentence.specs.Table.{production, resume}
use Rattle.opa_sentence.specs.Spelled.{weight}
use Rattle.opa_sentence.proofs.Machine.{Keeps}
use Rattle.opa_sentence.proofs.reader.read.Given as goal

abbrev pub invariant-loop-stack : goal.invariant-loop-stack
invariant-loop-stack l = Keeps (production bounded l.names) (resume bounded) l.fn.start (seen l.tokens) l.sort (seen l.rest) (reverse l.stack)

abbrev pub decreases-loop-stack : goal.decreases-loop-stack
decreases-loop-stack l = weight l.sort (seen l.rest) + length l.stack
