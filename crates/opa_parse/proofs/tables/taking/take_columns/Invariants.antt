use Rattle.std.proofs.Common.{length}
use Rattle.opa_parse.proofs.tables.TakingLaws.{AreTaken}
use Rattle.opa_parse.proofs.tables.taking.take_columns.Given as goal

abbrev pub invariant-loop-attr : goal.invariant-loop-attr
invariant-loop-attr l = AreTaken l.file l.table l.table.heads.conclusions l.fn.taken l.place l.rest l.next

abbrev pub decreases-loop-attr : goal.decreases-loop-attr
decreases-loop-attr l = length l.rest
