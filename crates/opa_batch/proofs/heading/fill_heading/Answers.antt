use Rattle.std.proofs.Common.{◌≡◌, ◌<◌, ◌++◌, ◌∷◌, [], length, rules}
use Rattle.std.specs.Prelude.{codes}
use Rattle.csv.specs.Records.{fields_of}
use Rattle.opa_batch.specs.Batches.{goal_phrase}
use Rattle.opa_batch.proofs.RowLaws.{next_goal}
use Rattle.opa_batch.proofs.heading.fill_heading.Goals as goal

pub loop-goal-preserved : goal.loop-goal-preserved
loop-goal-preserved c =
    let base = c.args.base.now in
    let within : c.loop-goal.goal < length base.model.goals = search rules in
    let grown : fields_of c.add_cell.new.row ≡ fields_of c.loop-goal.row ++ c.goal_phrase.result.now ∷ [] = search rules in
    record {
      cells = next_goal (goal_phrase base) base.model.goals (codes "row") c.loop-goal.goal (fields_of c.loop-goal.row) (fields_of c.add_cell.new.row) c.goal_phrase.result.now within c.goal_phrase.ensures grown c.loop-goal.invariant.cells;
      whole = c.in_ok-add_cell.ensures.whole;
    }
