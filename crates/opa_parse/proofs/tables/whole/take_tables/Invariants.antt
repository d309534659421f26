use Rattle.std.proofs.Common.{length}
use Rattle.opa_parse.proofs.tables.WholeLaws.{AreRun}
use Rattle.opa_parse.proofs.tables.whole.take_tables.Given as goal

abbrev pub invariant-loop-table : goal.invariant-loop-table
invariant-loop-table l = AreRun l.model l.names l.tables l.rest l.fn.taken l.next

abbrev pub decreases-loop-table : goal.decreases-loop-table
decreases-loop-table l = length l.rest
