use Rattle.std.proofs.Common.{◌≡◌, ◌<◌, ◌++◌, ◌∷◌, [], length, rules}
use Rattle.std.specs.Fmt.{decimal}
use Rattle.csv.specs.Records.{fields_of}
use Rattle.opa_batch.specs.Rows.{goal_cell}
use Rattle.opa_batch.proofs.RowLaws.{next_goal}
use Rattle.opa_batch.proofs.rows.goals_row.Goals as goal

pub loop-goal-preserved : goal.loop-goal-preserved
loop-goal-preserved g c =
    let r = g.H.Held.rules c.args.held.now in let held = g.H.Held.held c.args.held.now in
    let within : c.loop-goal.goal < length r.model.goals = search rules in
    let grown : fields_of c.add_cell.new.row ≡ fields_of c.loop-goal.row ++ c.in_ok-cell.cell ∷ [] = search rules in
    record {
      cells = next_goal (goal_cell r held) r.model.goals (decimal c.args.number) c.loop-goal.goal (fields_of c.loop-goal.row) (fields_of c.add_cell.new.row) c.in_ok-cell.cell within c.in_ok-cell.ensures grown c.loop-goal.invariant.cells;
      whole = c.in_ok-add_cell.ensures.whole;
    }
