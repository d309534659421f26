use Rattle.std.specs.FinMap.{get}
use Rattle.opa_case.specs.Lost.{refers_to}
use Rattle.opa_case.specs.Shapes.{shape_of}
use Rattle.opa_case.proofs.Touching.{adds_more}
use Rattle.opa_case.proofs.touched.add_naming_each.Goals as goal

pub loop-inst-preserved : goal.loop-inst-preserved
loop-inst-preserved c =
    adds_more c.args.keys.now c.loop-inst.keys c.add_naming.new.keys (λ q j g. refers_to (shape_of c.args.model.now) g.0 q (get c.args.lists.now (q, j))) c.args.gone.now c.loop-inst.inst-index c.loop-inst-item.result c.loop-inst-test.true c.loop-inst-item.is
    c.loop-inst.invariant c.in_ok-add_naming.ensures
