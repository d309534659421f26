use Rattle.std.proofs.Common.{◌≡◌, take}
use Rattle.csv.specs.Records.{fields_of}
use Rattle.opa_batch.proofs.same.is_same.Given as goal

-- the cells before are the same
abbrev pub invariant-loop-place : goal.invariant-loop-place
invariant-loop-place l = record {
  same : take l.place (fields_of l.one) ≡ take l.place (fields_of l.other);
}
