use Rattle.opa_need.proofs.Steadiness.{known_by_line}
use Rattle.opa_need.proofs.stays.open_from.Goals as goal

pub returns-in-Some-clause-known : goal.returns-in-Some-clause-known
returns-in-Some-clause-known g c =
    let r = g.H.Held.rules c.args.held.now in let held = g.H.Held.held c.args.held.now in
    known_by_line r held c.args.part.now c.args.enclosing.now c.in-Some.line.now c.args.day c.open_on.result c.in-Some.ensures c.open_on.ensures.end c.open_on.ensures.known

pub returns-in_ok-line-in-None-clause-known : goal.returns-in_ok-line-in-None-clause-known
returns-in_ok-line-in-None-clause-known g c =
    let r = g.H.Held.rules c.args.held.now in let held = g.H.Held.held c.args.held.now in
    known_by_line r held c.args.part.now c.args.enclosing.now c.in_ok-line-in-None.line c.args.day c.open_on-in-None.result c.in_ok-line-in-None.ensures c.open_on-in-None.ensures.end c.open_on-in-None.ensures.known
