use Rattle.std.specs.Prelude.{◌&&◌, nat_lt, take}
use Rattle.std.specs.List.{list_any}
use Rattle.std.specs.FinMap.{get}
use Rattle.opa_case.specs.Shapes.{shape_of}
use Rattle.opa_case.specs.Lost.{goes_with}
use Rattle.opa_case.proofs.Taken.{then_taken, more_of}
use Rattle.opa_case.proofs.dropping.drop_lists.Goals as goal

pub loop-inst-preserved : goal.loop-inst-preserved
loop-inst-preserved c q j =
    let s = shape_of c.args.model.now in
    let k = c.loop-inst.inst-index in
    let x = c.loop-inst-item.result in
    let gone = c.args.gone.now in
    let a = nat_lt q s.relations in
    let o = get c.args.lists.now (q, j) in
    then_taken o _ _ (a && list_any (λ g. goes_with s g.0 q j o) (take k gone)) (λ p. a && goes_with s x.0 q j p) _ (c.loop-inst.invariant q j) (c.drop_lists_of.ensures q j)
    (more_of a (λ g. goes_with s g.0 q j o) gone k x c.loop-inst-test.true c.loop-inst-item.is)
