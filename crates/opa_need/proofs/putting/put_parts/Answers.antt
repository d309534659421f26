use Rattle.std.proofs.Common.{ap, refl}
use Rattle.std.proofs.lemmas.Result.{on_ok_weaker}
use Rattle.opa_need.specs.Steps.{parts_needs}
use Rattle.opa_need.proofs.OpeningLaws.{parts_on, puts_none}
use Rattle.opa_need.proofs.putting.put_parts.Goals as goal

pub returns-in-None : goal.returns-in-None
returns-in-None g c =
    let r = g.H.Held.rules c.args._held.now in let held = g.H.Held.held c.args._held.now in
    puts_none r held (parts_needs r held c.args.parts.now c.args.enclosing.now c.args.day) c.args.steps.now c.args.steps.now (ap (λ xs. parts_needs r held xs c.args.enclosing.now c.args.day) c.in-None.ensures) refl

pub returns-in_ok-again-in-Some : goal.returns-in_ok-again-in-Some
returns-in_ok-again-in-Some g c =
    let r = g.H.Held.rules c.args._held.now in let held = g.H.Held.held c.args._held.now in
    on_ok_weaker c.push.result (λ e. parts_on r held c.args.parts c.args.enclosing.now _ c.args.day _ _ c.in_ok-again-in-Some.ensures c.requires.live c.requires.day e) c.push.ensures.ok
