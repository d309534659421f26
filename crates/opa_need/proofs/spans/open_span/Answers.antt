use Rattle.std.proofs.Common.{◌∷◌, []}
use Rattle.opa_need.proofs.OpeningLaws.{span_is}
use Rattle.opa_need.proofs.spans.open_span.Goals as goal

pub returns-in_ok-add_part-in-One : goal.returns-in_ok-add_part-in-One
returns-in_ok-add_part-in-One g c =
    let r = g.H.Held.rules c.args.held.now in let held = g.H.Held.held c.args.held.now in
    span_is r held (c.in-One.date.now ∷ []) c.args.parts.now c.args.enclosing.now c.args.day _ _ c.in-One.ensures c.new-steps.ensures c.in_ok-add_part-in-One.ensures

pub returns-in_ok-add_at-in-Two : goal.returns-in_ok-add_at-in-Two
returns-in_ok-add_at-in-Two g c =
    let r = g.H.Held.rules c.args.held.now in let held = g.H.Held.held c.args.held.now in
    span_is r held (c.in-Two.date.now ∷ c.in-Two.x.now ∷ []) c.args.parts.now c.args.enclosing.now c.args.day _ _ c.in-Two.ensures c.new-steps.ensures c.in_ok-add_at-in-Two.ensures

pub returns-in_ok-add_between-in-Three : goal.returns-in_ok-add_between-in-Three
returns-in_ok-add_between-in-Three g c =
    let r = g.H.Held.rules c.args.held.now in let held = g.H.Held.held c.args.held.now in
    span_is r held (c.in-Three.start.now ∷ c.in-Three.end.now ∷ c.in-Three.x.now ∷ []) c.args.parts.now c.args.enclosing.now c.args.day _ _ c.in-Three.ensures c.new-steps.ensures c.in_ok-add_between-in-Three.ensures
