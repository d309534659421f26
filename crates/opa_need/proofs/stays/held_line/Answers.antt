use Rattle.opa_need.proofs.Steadiness.{attr_stands}
use Rattle.opa_need.proofs.stays.held_line.Goals as goal

pub returns-in-Some-line : goal.returns-in-Some-line
returns-in-Some-line g c =
    let r = g.H.Held.rules c.args.held.now in let held = g.H.Held.held c.args.held.now in
    attr_stands r held c.args.part.now c.in-Attr.attr c.in-Some.inst.now c.in-Some-line.line.now c.args.enclosing.now c.in-Attr.is c.in-Some.ensures c.in-Some-line.ensures.value
