use Rattle.csv.specs.Records.{fields_of}
use Rattle.opa_mean.specs.Rulebases.{IsOf}
use Rattle.opa_batch.specs.Numbered.{IsOnTheWay, CountsCells}
use Rattle.opa_batch.proofs.cells.take_cells.Given as goal

-- the cells before were carried out
abbrev pub invariant-loop-place : goal.invariant-loop-place
invariant-loop-place l = record {
  fits : IsOf l.base l.case;
  way : IsOnTheWay l.base l.heads (fields_of l.row) l.fn.case l.place l.case;
  counts : CountsCells l.base l.heads (fields_of l.row) l.fn.case l.place l.case;
}
