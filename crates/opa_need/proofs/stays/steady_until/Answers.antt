use Rattle.opa_need.proofs.Steadiness.{stays_so}
use Rattle.opa_need.proofs.stays.steady_until.Goals as goal

pub returns : goal.returns
returns g c =
    let r = g.H.Held.rules c.args.held.now in let held = g.H.Held.held c.args.held.now in
    stays_so r held c.args.part.now c.args.enclosing.now c.args.day c.in_ok-stay.stay.until c.in_ok-stay.stay.value c.in_ok-stay.ensures
