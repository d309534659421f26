use Rattle.std.proofs.Common.{◌<◌, length, arith}
use Rattle.opa_rules.proofs.reviewing.RowLaws.{none_yet, one_more}
use Rattle.opa_rules.proofs.reviewing.rows.push_rows.Goals as goal

pub loop-place-init : goal.loop-place-init
loop-place-init c = record {
  found = none_yet c.args.findings.now c.args.rule.now c.args.rows.now;
  known = c.new-known.ensures;
}

pub loop-place-preserved : goal.loop-place-preserved
loop-place-preserved c =
    let below : c.loop-place.place < length c.args.rows.now = omega (arith, c.loop-place-test.true) in
    record {
      found = one_more c.args.findings.now _ _ c.args.rule.now c.args.rows.now c.loop-place.place c.loop-place.invariant.found c.in_ok-push_row.ensures.found;
      known = c.in_ok-push_row.ensures.known below;
    }
