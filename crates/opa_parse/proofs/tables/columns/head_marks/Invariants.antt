use Rattle.std.proofs.Common.{◌≡◌, ◌++◌, length}
use Rattle.opa_parse.specs.Tables.Columns.{head_marks}
use Rattle.opa_parse.proofs.tables.columns.head_marks.Given as goal

abbrev pub invariant-loop-head : goal.invariant-loop-head
invariant-loop-head l = l.marks ++ head_marks l.rest ≡ head_marks l.heads

abbrev pub decreases-loop-head : goal.decreases-loop-head
decreases-loop-head l = length l.rest
