use Rattle.opa_reply.proofs.reporting.Questions.{relevant_declared}
use Rattle.opa_reply.proofs.reporting.asking.are_declared.Goals as goal

pub returns : goal.returns
returns g c =
    let r = g.H.Held.rules c.args.held.now in let held = g.H.Held.held c.args.held.now in
    relevant_declared c.asked_is_declared.ensures r held c.case-case.ensures.fits c.args.goal c.args.questions.now c.requires
