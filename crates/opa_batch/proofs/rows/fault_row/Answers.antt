use Rattle.std.proofs.Common.{◌≡◌, ◌<◌, ◌++◌, ◌∷◌, [], length, rules}
use Rattle.std.specs.Fmt.{decimal}
use Rattle.csv.specs.Records.{fields_of}
use Rattle.opa_batch.specs.Rows.{empty_cell}
use Rattle.opa_batch.proofs.RowLaws.{next_goal, nothing_there}
use Rattle.opa_batch.proofs.rows.fault_row.Goals as goal

pub loop-goal-preserved : goal.loop-goal-preserved
loop-goal-preserved c =
    let goals = c.args.base.now.model.goals in
    let within : c.loop-goal.goal < length goals = search rules in
    let grown : fields_of c.add_cell.new.row ≡ fields_of c.loop-goal.row ++ [] ∷ [] = search rules in
    record {
      cells = next_goal empty_cell goals (decimal c.args.number) c.loop-goal.goal (fields_of c.loop-goal.row) (fields_of c.add_cell.new.row) [] within (nothing_there goals c.loop-goal.goal) grown c.loop-goal.invariant.cells;
      whole = c.in_ok-add_cell.ensures.whole;
    }
