use Rattle.std.proofs.Common.{◌∙◌}
use Rattle.opa_mean.proofs.Holdings.{held_line}
use Rattle.opa_session.proofs.telling.Firsts.{in_calendar}
use Rattle.opa_session.proofs.telling.lines.held_on.Goals as goal

pub returns-clause-value : goal.returns-clause-value
returns-clause-value g c =
    c.in_ok-value.ensures ∙ held_line (g.H.Lined.rules c.args.held.now) (g.H.Lined.over c.args.held.now) c.args.attr c.args.inst.now c.line-line.result c.line-line.ensures.value c.line-line.ensures.none c.args.day c.requires

pub returns-clause-calendar : goal.returns-clause-calendar
returns-clause-calendar g c =
    let r = g.H.Lined.rules c.args.held.now in let k = g.H.Lined.over c.args.held.now in
    in_calendar c.values_have_kinds.ensures r k c.base-base.ensures.fits c.args.attr c.args.inst.now c.args.day c.in_ok-value.value
    (c.in_ok-value.ensures ∙ held_line r k c.args.attr c.args.inst.now c.line-line.result c.line-line.ensures.value c.line-line.ensures.none c.args.day c.requires)
