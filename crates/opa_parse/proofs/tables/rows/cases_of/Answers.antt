use Rattle.std.proofs.Common.{ap, map, length, refl, arith}
use Rattle.csv.specs.Records.{fields_of}
use Rattle.opa_parse.proofs.tables.RowLaws.{cases_more}
use Rattle.opa_parse.proofs.tables.rows.cases_of.Goals as goal

pub loop-row-preserved : goal.loop-row-preserved
loop-row-preserved c = record {
  read =
      cases_more c.args.names.now c.args.heads.now (map fields_of c.args.records.now) (map fields_of c.loop-row.rest.now) (map fields_of c.in-Some.later.now) (fields_of c.in-Some.row.now) c.loop-row.number _ c.loop-row.cases _ c.in-Some-2.case
      (ap (map fields_of) c.in-Some.ensures) c.loop-row.invariant.read (rw c.in-Some-2.is at c.in_ok-case_in.ensures) c.in_ok-push-in-Some-2.ensures.ok refl;
  counted = omega (arith, c.loop-row.invariant.counted, ap length c.in-Some.ensures);
}
