use Rattle.std.proofs.Common.{rules}
use Rattle.opa_need.proofs.Pursuing.{no_days_left, days_pass}
use Rattle.opa_need.proofs.pursuit.take_days.Goals as goal

pub returns-then-from-end : goal.returns-then-from-end
returns-then-from-end g c =
    let r = g.H.Held.rules c.args.held.now in let held = g.H.Held.held c.args.held.now in
    λ found runs. days_pass r held found runs found runs c.args.part c.args.enclosing.now c.args.first c.in_ok-from.from c.args.end c.args.steps.now c.args.steps.now c.in_ok-from.ensures.from c.in_ok-from.ensures.known
    (no_days_left r held found runs c.args.part c.args.enclosing.now c.in_ok-from.from c.args.end c.args.steps.now (search rules))

pub returns : goal.returns
returns g c =
    let r = g.H.Held.rules c.args.held.now in let held = g.H.Held.held c.args.held.now in
    λ found runs. days_pass r held found runs found runs c.args.part c.args.enclosing.now c.args.first c.in_ok-from.from c.args.end c.args.steps.now c.put_day.new.steps c.in_ok-from.ensures.from c.in_ok-from.ensures.known (c.in_ok-put_day.ensures found runs)
