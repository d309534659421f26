use Rattle.std.proofs.Common.{List, [], refl, subst}
use Rattle.opa_cells.specs.declared.instance.InstanceId.{InstanceId}
use Rattle.opa_need.specs.Alike.{Agrees}
use Rattle.opa_need.proofs.lasting.until_at.Goals as goal

pub returns-then-alike : goal.returns-then-alike
returns-then-alike g c =
    let r = g.H.Held.rules c.args.held.now in let k = g.H.Held.held c.args.held.now in (
      refl,
      subst (λ (e : List InstanceId). Agrees r k [] e c.args.enclosing.now c.args.tree.now) c.as_slice-there.ensures
          (subst (λ (e : List InstanceId). Agrees r k [] c.as_slice-there.result.now e c.args.tree.now) c.as_slice-here.ensures (c.in_ok-alike.ensures c.if-alike.true)),
    )
