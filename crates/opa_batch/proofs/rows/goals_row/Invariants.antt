use Rattle.std.proofs.Common.{◌≡◌, []}
use Rattle.std.specs.Fmt.{decimal}
use Rattle.csv.specs.Records.{fields_of, partial_of}
use Rattle.opa_batch.specs.Rows.{goal_cell}
use Rattle.opa_batch.specs.Numbered.{AreUpTo}
use Rattle.opa_batch.proofs.rows.goals_row.Given as goal

-- the cells of the goals before
abbrev pub invariant-loop-goal : goal.invariant-loop-goal
invariant-loop-goal g l = record {
  cells : AreUpTo (goal_cell (g.H.Held.rules l.held) (g.H.Held.held l.held)) (g.H.Held.rules l.held).model.goals (decimal l.number) l.goal (fields_of l.row);
  whole : partial_of l.row ≡ [];
}
