use Rattle.opa_reply.proofs.reporting.asking.is_declared.Goals as goal

pub returns : goal.returns
returns g c =
    let r = g.H.Held.rules c.args.held.now in let held = g.H.Held.held c.args.held.now in
    c.next_is_declared.ensures r held c.case-case.ensures.fits c.args.question.now c.requires
