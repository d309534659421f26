use Rattle.std.proofs.Common.{◌≡◌, ◌++◌, ◌∷◌, [], drop}
use Rattle.std.specs.Fmt.{decimal}
use Rattle.csv.specs.Records.{fields_of, partial_of}
use Rattle.opa_batch.proofs.rows.fill_again.Given as goal

-- with the cells from a place on, the row is whole
abbrev pub invariant-loop-place : goal.invariant-loop-place
invariant-loop-place l = record {
  cells : fields_of l.row ++ drop l.place (fields_of l.known) ≡ decimal l.number ∷ drop 1 (fields_of l.known);
  whole : partial_of l.row ≡ [];
}
