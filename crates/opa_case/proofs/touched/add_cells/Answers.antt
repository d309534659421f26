use Rattle.opa_case.specs.Listed.{is_list}
use Rattle.opa_case.proofs.Touching.{adds_more}
use Rattle.opa_case.proofs.touched.add_cells.Goals as goal

pub loop-number-preserved : goal.loop-number-preserved
loop-number-preserved c =
    adds_more c.args.keys.now c.loop-number.keys c.add_key.new.keys (λ q j cell. is_list cell.0 cell.1.now q j) c.args.cells.now c.loop-number.number-index c.loop-number-item.result c.loop-number-test.true c.loop-number-item.is
    c.loop-number.invariant c.in_ok-add_key.ensures
