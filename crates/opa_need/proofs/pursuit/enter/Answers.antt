use Rattle.std.proofs.Common.{rules}
use Rattle.opa_need.proofs.Pursuing.{entered_on}
use Rattle.opa_need.proofs.pursuit.enter.Goals as goal

pub returns : goal.returns
returns g c =
    let r = g.H.Held.rules c.args.held.now in let held = g.H.Held.held c.args.held.now in
    λ found runs. entered_on r held c.case-case.ensures.fits found runs c.args.attr c.args.inst.now _ c.args.day c.args.rule.now _ _ c.args.steps.now _ _ c.in_ok-push.ensures.ok c.in_ok-push-2.ensures.ok c.requires.ruled (search rules) (search rules) (search rules)
