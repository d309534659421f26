use Rattle.std.proofs.Common.{rules}
use Rattle.opa_need.proofs.Pursuing.{days_go_on}
use Rattle.opa_need.proofs.pursuit.leave_day.Goals as goal

pub returns : goal.returns
returns g c =
    let r = g.H.Held.rules c.args.held.now in let held = g.H.Held.held c.args.held.now in
    days_go_on r held c.args.found.now c.args.runs.now c.args.part c.args.enclosing.now _ c.args.day c.args.end c.in_ok-until.until _ _ _ c.in_ok-behind.ensures (search rules) c.in_ok-until.ensures c.in_ok-push.ensures.ok
