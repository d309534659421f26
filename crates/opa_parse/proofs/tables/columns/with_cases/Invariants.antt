use Rattle.std.proofs.Common.{◌≡◌, length}
use Rattle.opa_parse.specs.Tables.Columns.{with_cases}
use Rattle.opa_parse.proofs.tables.columns.with_cases.Given as goal

abbrev pub invariant-loop-case : goal.invariant-loop-case
invariant-loop-case l = with_cases l.heads l.place l.all l.rest ≡ with_cases l.heads l.place l.fn.before l.cases

abbrev pub decreases-loop-case : goal.decreases-loop-case
decreases-loop-case l = length l.rest
