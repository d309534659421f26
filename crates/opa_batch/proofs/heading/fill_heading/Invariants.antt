use Rattle.std.proofs.Common.{◌≡◌, []}
use Rattle.std.specs.Prelude.{codes}
use Rattle.csv.specs.Records.{fields_of, partial_of}
use Rattle.opa_batch.specs.Batches.{goal_phrase}
use Rattle.opa_batch.specs.Numbered.{AreUpTo}
use Rattle.opa_batch.proofs.heading.fill_heading.Given as goal

-- the phrases of the goals before
abbrev pub invariant-loop-goal : goal.invariant-loop-goal
invariant-loop-goal l = record {
  cells : AreUpTo (goal_phrase l.base) l.base.model.goals (codes "row") l.goal (fields_of l.row);
  whole : partial_of l.row ≡ [];
}
