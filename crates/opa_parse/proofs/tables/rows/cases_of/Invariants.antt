use Rattle.std.proofs.Common.{◌<◌, ◌+◌, ◌^◌, length, map}
use Rattle.csv.specs.Records.{fields_of}
use Rattle.opa_parse.proofs.tables.RowLaws.{AreRead}
use Rattle.opa_parse.proofs.tables.rows.cases_of.Given as goal

abbrev pub invariant-loop-row : goal.invariant-loop-row
invariant-loop-row l = record {
  read : AreRead l.names l.heads (map fields_of l.records) (map fields_of l.rest) l.number l.cases;
  counted : l.number + length l.rest < 2 ^ 32;
}

abbrev pub decreases-loop-row : goal.decreases-loop-row
decreases-loop-row l = length l.rest
