use Rattle.std.proofs.Common.{◌≡◌, ◌++◌, length}
use Rattle.opa_parse.specs.Tables.Columns.{comparisons}
use Rattle.opa_parse.proofs.tables.columns.comparisons.Given as goal

abbrev pub invariant-loop-test : goal.invariant-loop-test
invariant-loop-test l = l.all ++ comparisons l.left l.rest ≡ comparisons l.heads l.tests

abbrev pub decreases-loop-test : goal.decreases-loop-test
decreases-loop-test l = length l.rest
