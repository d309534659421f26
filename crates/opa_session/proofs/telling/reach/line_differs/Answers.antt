use Rattle.std.proofs.Common.{◌∙◌, ap, is_some}
use Rattle.opa_session.proofs.telling.Firsts.{line_differ}
use Rattle.opa_session.proofs.telling.reach.line_differs.Goals as goal

pub returns : goal.returns
returns g c =
    c.is_some.ensures ∙ ap is_some (c.in_ok-day.ensures ∙ line_differ (g.K.Held.rules c.args.new.now) (g.H.Held.rules c.args.old.now) (g.H.Held.held c.args.old.now) (g.K.Held.held c.args.new.now) c.args.attr c.args.inst.now
    c.requires.same c.case-before.ensures.fits c.case-after.ensures.fits c.requires.before c.requires.after)
