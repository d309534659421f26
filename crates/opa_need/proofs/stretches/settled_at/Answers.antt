use Rattle.opa_need.proofs.Settling as law
use Rattle.opa_need.proofs.Pursuing.{covered}
use Rattle.opa_need.proofs.stretches.settled_at.Goals as goal

pub returns-in-None : goal.returns-in-None
returns-in-None g c =
    let r = g.H.Held.rules c.args.held.now in let held = g.H.Held.held c.args.held.now in
    law.asked_settles r held c.case-case.ensures.fits c.args._found.now c.args.runs.now c.args.attr c.args.inst.now c.args.day _ c.in-None.ensures

pub returns-in-None-run_of : goal.returns-in-None-run_of
returns-in-None-run_of g c =
    let r = g.H.Held.rules c.args.held.now in let held = g.H.Held.held c.args.held.now in
    law.settles_none r held c.args._found.now c.args.runs.now _ c.args.day

pub returns-in-Some-run_of : goal.returns-in-Some-run_of
returns-in-Some-run_of g c =
    let r = g.H.Held.rules c.args.held.now in let held = g.H.Held.held c.args.held.now in
    λ right there. covered r held c.args._found.now c.args.runs.now c.args.attr c.args.inst.now c.args.day _ right c.in-Some-run_of.ensures
