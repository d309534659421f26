use Rattle.opa_reply.proofs.reporting.Goals.{unheld_stands}
use Rattle.opa_reply.proofs.reporting.shown.told_line.Goals as goal

pub text_of_line-requires-clause-stands : goal.text_of_line-requires-clause-stands
text_of_line-requires-clause-stands g c =
    let r = g.H.Held.rules c.args.held.now in let held = g.H.Held.held c.args.held.now in
    unheld_stands r held c.case-case.ensures.fits c.args.attr c.args.inst.now c.in_ok-line-in-None.line c.requires.place c.in-None.ensures.none c.in_ok-line-in-None.ensures.everywhere
