use Rattle.std.proofs.Common.{◌≡◌, rules}
use Rattle.csv.specs.Records.{fields_of}
use Rattle.opa_batch.proofs.SameLaws.{same_more}
use Rattle.opa_batch.proofs.same.is_same.Goals as goal

pub loop-place-preserved : goal.loop-place-preserved
loop-place-preserved c =
    let e : c.in-Some.cell.now ≡ c.in-Some-get.its.now = search rules in
    record {
      same = same_more (fields_of c.args.one.now) (fields_of c.args.other.now) c.loop-place.place c.in-Some.cell.now c.in-Some-get.its.now c.in-Some.ensures.value c.in-Some-get.ensures.value e c.loop-place.invariant.same;
    }
