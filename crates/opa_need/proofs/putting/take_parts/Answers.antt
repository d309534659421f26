use Rattle.std.proofs.lemmas.Result.{on_ok_weaker}
use Rattle.opa_need.proofs.OpeningLaws.{no_part, some_part}
use Rattle.opa_need.proofs.putting.take_parts.Goals as goal

pub returns-in-None : goal.returns-in-None
returns-in-None g c =
    let r = g.H.Held.rules c.args.held.now in let held = g.H.Held.held c.args.held.now in
    no_part r held c.args.parts.now c.args.enclosing.now c.args.day c.in_ok-first_part.field-0 c.args.steps.now c.in-None.is c.in_ok-first_part.ensures

pub returns-in_ok-put_parts-in-Some : goal.returns-in_ok-put_parts-in-Some
returns-in_ok-put_parts-in-Some g c =
    let r = g.H.Held.rules c.args.held.now in let held = g.H.Held.held c.args.held.now in
    on_ok_weaker c.take_open.result (λ h. some_part r held c.args.parts.now c.args.enclosing.now c.args.day c.in_ok-first_part.field-0 c.in-Some.part c.in-Some.later c.args.steps.now c.put_parts.new.steps c.take_open.new.steps c.in-Some.is c.in_ok-first_part.ensures c.in_ok-put_parts-in-Some.ensures h) c.take_open.ensures
