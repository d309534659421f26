use Rattle.std.proofs.Common.{List, [], subst}
use Rattle.opa_line.proofs.Zipping.{ok_weaker}
use Rattle.opa_cells.specs.declared.instance.InstanceId.{InstanceId}
use Rattle.opa_need.specs.Alike.{Agrees}
use Rattle.opa_need.proofs.Noting.{noted_found}
use Rattle.opa_need.proofs.noted.is_noted.Goals as goal

pub returns-then-is_of : goal.returns-then-is_of
returns-then-is_of g c =
    let r = g.H.Held.rules c.args.held.now in let k = g.H.Held.held c.args.held.now in
    let same = c.is_of.ensures c.if-is_of.true in
    ok_weaker c.is_alike.result _ _ (λ alike agrees yes found noted. noted_found r k c.args.noted.now c.loop-one.one-index c.one-item.result c.args.tree.now c.args.enclosing.now c.args.day found c.loop-one-test.true c.one-item.is same.0 same.1
    (subst (λ (e : List InstanceId). Agrees r k [] e c.args.enclosing.now c.args.tree.now) c.as_slice.ensures
    (subst (λ (e : List InstanceId). Agrees r k [] c.as_slice.result.now e c.args.tree.now) c.as_slice-then-is_of.ensures (agrees yes))) noted) c.is_alike.ensures
