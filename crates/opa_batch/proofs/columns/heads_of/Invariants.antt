use Rattle.csv.specs.Records.{fields_of}
use Rattle.opa_batch.specs.Columns.{AreTaken}
use Rattle.opa_batch.proofs.columns.heads_of.Given as goal

-- the heads of the cells before
abbrev pub invariant-loop-place : goal.invariant-loop-place
invariant-loop-place l = AreTaken l.model (fields_of l.row) l.place l.heads
