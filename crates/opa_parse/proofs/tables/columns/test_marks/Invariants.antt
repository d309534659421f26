use Rattle.std.proofs.Common.{◌≡◌, ◌++◌, length}
use Rattle.opa_parse.specs.Tables.Columns.{test_marks}
use Rattle.opa_parse.proofs.tables.columns.test_marks.Given as goal

abbrev pub invariant-loop-test : goal.invariant-loop-test
invariant-loop-test l = l.marks ++ test_marks l.number l.rest ≡ test_marks l.number l.tests

abbrev pub decreases-loop-test : goal.decreases-loop-test
decreases-loop-test l = length l.rest
