use Rattle.opa_reply.proofs.reporting.ReportLaws.{printable}
use Rattle.opa_reply.proofs.reporting.reporting.is_printable.Goals as goal

pub returns : goal.returns
returns g c =
    let r = g.H.Held.rules c.args.held.now in let held = g.H.Held.held c.args.held.now in
    printable c.values_have_kinds.ensures r held c.case-case.ensures.fits c.args.report.now c.requires.entries c.requires.days c.requires.declared c.args.attr c.args.inst.now c.args.day c.requires.attr c.requires.day c.requires.about
