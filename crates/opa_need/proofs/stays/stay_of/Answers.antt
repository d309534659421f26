use Rattle.opa_need.proofs.Steadiness.{stays_by_line}
use Rattle.opa_need.proofs.stays.stay_of.Goals as goal

pub returns-in_ok-stay-in-Some : goal.returns-in_ok-stay-in-Some
returns-in_ok-stay-in-Some g c =
    let r = g.H.Held.rules c.args.held.now in let held = g.H.Held.held c.args.held.now in
    stays_by_line r held c.args.part.now c.args.enclosing.now c.in-Some.line.now c.args.day c.in_ok-stay-in-Some.stay.until c.in_ok-stay-in-Some.stay.value c.in-Some.ensures c.in_ok-stay-in-Some.ensures

pub returns-in_ok-stay-in-None : goal.returns-in_ok-stay-in-None
returns-in_ok-stay-in-None g c =
    let r = g.H.Held.rules c.args.held.now in let held = g.H.Held.held c.args.held.now in
    stays_by_line r held c.args.part.now c.args.enclosing.now c.in_ok-line-in-None.line c.args.day c.in_ok-stay-in-None.stay.until c.in_ok-stay-in-None.stay.value c.in_ok-line-in-None.ensures c.in_ok-stay-in-None.ensures
