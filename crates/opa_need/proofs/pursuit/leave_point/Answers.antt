use Rattle.std.proofs.Common.{rules}
use Rattle.opa_need.proofs.Pursuing.{left_on}
use Rattle.opa_need.proofs.pursuit.leave_point.Goals as goal

pub returns : goal.returns
returns g c =
    let r = g.H.Held.rules c.args.held.now in let held = g.H.Held.held c.args.held.now in
    left_on r held c.args.found.now c.args.runs.now _ c.args.attr c.args.inst.now c.args.day c.in_ok-until.until _ c.in_ok-add_run.ensures (search rules) (search rules) c.in_ok-until.ensures
