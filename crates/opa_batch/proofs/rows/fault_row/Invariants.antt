use Rattle.std.proofs.Common.{◌≡◌, []}
use Rattle.std.specs.Fmt.{decimal}
use Rattle.csv.specs.Records.{fields_of, partial_of}
use Rattle.opa_batch.specs.Rows.{empty_cell}
use Rattle.opa_batch.specs.Numbered.{AreUpTo}
use Rattle.opa_batch.proofs.rows.fault_row.Given as goal

-- an empty cell for each of the goals before
abbrev pub invariant-loop-goal : goal.invariant-loop-goal
invariant-loop-goal l = record {
  cells : AreUpTo empty_cell l.base.model.goals (decimal l.number) l.goal (fields_of l.row);
  whole : partial_of l.row ≡ [];
}
