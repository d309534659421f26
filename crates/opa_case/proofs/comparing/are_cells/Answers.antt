use Rattle.std.proofs.Common.{arith}
use Rattle.opa_cells.specs.Rows.{seen}
use Rattle.opa_case.proofs.SameLists.{seen_more, seen_all}
use Rattle.opa_case.proofs.comparing.are_cells.Goals as goal

pub loop-place-preserved : goal.loop-place-preserved
loop-place-preserved c =
    let before = c.loop-place.invariant in
    record {
      same = seen_more seen c.args.cells.now c.args.others.now c.loop-place.place c.index-cells-place.result c.index-others-place.result c.loop-place-test.true (omega (arith, c.loop-place-test.true, before.long)) c.index-cells-place.is c.index-others-place.is
          (c.is_cell.ensures c.if-not-is_cell.false) before.same;
      long = before.long;
      upto = omega (arith, c.loop-place-test.true);
    }

pub returns : goal.returns
returns c = λ _. seen_all seen c.args.cells.now c.args.others.now c.loop-place.place c.loop-place-test.false (omega (arith, c.loop-place-test.false, c.loop-place.invariant.long)) c.loop-place.invariant.same
