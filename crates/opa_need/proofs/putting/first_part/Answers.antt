use Rattle.opa_need.proofs.OpeningLaws.{parts_pass, parts_stop}
use Rattle.opa_need.specs.Steps.{parts_needs}
use Rattle.std.proofs.Common.{◌∙◌, ap}
use Rattle.opa_need.proofs.putting.first_part.Goals as goal

pub returns-then-open : goal.returns-then-open
returns-then-open g c =
    let r = g.H.Held.rules c.args.held.now in let held = g.H.Held.held c.args.held.now in
    parts_stop r held c.args.parts.now c.loop-part.rest.now c.in-Some.later.now c.in-Some.part.now c.args.enclosing.now c.args.day c.in_ok-value.value c.is_unknown-open.result c.if-open.true c.is_unknown-open.ensures c.in_ok-value.ensures c.in-Some.ensures c.loop-part.invariant

pub loop-part-preserved : goal.loop-part-preserved
loop-part-preserved g c =
    let r = g.H.Held.rules c.args.held.now in let held = g.H.Held.held c.args.held.now in
    parts_pass r held c.args.parts.now c.loop-part.rest.now c.in-Some.later.now c.in-Some.part.now c.args.enclosing.now c.args.day c.in_ok-value.value c.is_unknown-open.result c.if-open.false c.is_unknown-open.ensures c.in_ok-value.ensures c.in-Some.ensures c.loop-part.invariant

pub returns : goal.returns
returns g c =
    let r = g.H.Held.rules c.args.held.now in let held = g.H.Held.held c.args.held.now in
    c.loop-part.invariant ∙ ap (λ xs. parts_needs r held xs c.args.enclosing.now c.args.day) c.in_default.ensures
