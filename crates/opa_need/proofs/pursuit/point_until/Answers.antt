use Rattle.std.proofs.Common.{refl}
use Rattle.opa_need.proofs.Pursuing.{none_settled, by_its_tree}
use Rattle.opa_need.proofs.pursuit.point_until.Goals as goal

pub returns-in-None : goal.returns-in-None
returns-in-None g c =
    let r = g.H.Held.rules c.args.held.now in let held = g.H.Held.held c.args.held.now in
    λ right there. none_settled r held _ c.args.found.now c.args.day

pub returns-in_ok-until-in-Some : goal.returns-in_ok-until-in-Some
returns-in_ok-until-in-Some g c =
    let r = g.H.Held.rules c.args.held.now in let held = g.H.Held.held c.args.held.now in
    by_its_tree r held c.case-case.ensures.fits c.args.found.now c.args.runs.now c.args.attr c.args.inst.now c.in-Some.rule.now c.in-Some.rule.now.expr c.in_ok-enclosing-in-Some.enclosing c.args.day c.in_ok-until-in-Some.until c.in-Some.ensures refl c.in_ok-enclosing-in-Some.ensures c.in_ok-until-in-Some.ensures

pub returns-then-last : goal.returns-then-last
returns-then-last g c =
    let r = g.H.Held.rules c.args.held.now in let held = g.H.Held.held c.args.held.now in
    λ right there. none_settled r held _ c.args.found.now c.args.day
