use Rattle.std.proofs.Common.{length}
use Rattle.opa_parse.specs.Tables.Cells.{IsHeadCell}
use Rattle.opa_parse.specs.Tables.Tables.{headings}
use Rattle.opa_parse.proofs.tables.EachLaws.{IsRead}
use Rattle.opa_parse.proofs.tables.heads.heads_of.Given as goal

abbrev pub invariant-loop-cell : goal.invariant-loop-cell
invariant-loop-cell l = IsRead (IsHeadCell l.model l.names) l.cells l.rest (headings l.heads)

abbrev pub decreases-loop-cell : goal.decreases-loop-cell
decreases-loop-cell l = length l.rest
