use Rattle.std.proofs.Common.{length}
use Rattle.opa_parse.specs.Tables.Cells.{IsConditionCell}
use Rattle.opa_parse.proofs.tables.EachLaws.{IsRead}
use Rattle.opa_parse.proofs.tables.conditions.tests_of.Given as goal

abbrev pub invariant-loop-cell : goal.invariant-loop-cell
invariant-loop-cell l = IsRead (IsConditionCell l.names) l.cells l.rest l.tests

abbrev pub decreases-loop-cell : goal.decreases-loop-cell
decreases-loop-cell l = length l.rest
