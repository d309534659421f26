use Rattle.opa_mean.proofs.goals.Knowing.{no_line, by_line}
use Rattle.opa_mean.proofs.goals.states.is_known.Goals as goal

pub returns-in-None : goal.returns-in-None
returns-in-None g c =
    let r = g.H.Held.rules c.args.held.now in let held = g.H.Held.held c.args.held.now in
    no_line r held c.case-case.ensures.fits c.args.attr c.global.result.now c.global.ensures c.requires.global c.in-None.ensures.none

pub returns-in-Some : goal.returns-in-Some
returns-in-Some g c =
    let r = g.H.Held.rules c.args.held.now in let held = g.H.Held.held c.args.held.now in
    by_line r held c.args.attr c.global.result.now c.in-Some.line.now c.is_line_known-known.result c.global.ensures c.segments-form.ensures.form c.in-Some.ensures.value c.is_line_known-known.ensures
