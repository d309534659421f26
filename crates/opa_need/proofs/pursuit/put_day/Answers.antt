use Rattle.opa_need.proofs.Pursuing.{days_begin}
use Rattle.opa_need.proofs.pursuit.put_day.Goals as goal

pub returns : goal.returns
returns g c =
    let r = g.H.Held.rules c.args._held.now in let held = g.H.Held.held c.args._held.now in
    λ found runs. days_begin r held found runs c.args.part c.args.enclosing.now _ _ c.args.first c.args.end _ _ _ c.requires c.in_ok-at_first.ensures c.in_ok-behind.ensures c.in_ok-push.ensures.ok c.in_ok-push-2.ensures.ok
