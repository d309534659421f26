use Rattle.std.proofs.Common.{ap, ◌∙◌, ◌++◌, ◌+◌, arith}
use Rattle.std.specs.Prelude.{flat_map}
use Rattle.opa_case.specs.Shapes.{shape_of}
use Rattle.opa_case.specs.Live.{held, members}
use Rattle.opa_case.proofs.Lively.{live_none, live_next}
use Rattle.opa_saved.proofs.order.live_order.Goals as goal

pub loop-entity-init : goal.loop-entity-init
loop-entity-init g c = record { filled = c.new-order.ensures.items ∙ live_none (shape_of c.args.model.now) (g.L.Lists.lists c.args.lists.now); within = c.entity_count-count.ensures.form.has_global }

pub loop-entity-preserved : goal.loop-entity-preserved
loop-entity-preserved g c =
    let s = shape_of c.args.model.now in
    let l = g.L.Lists.lists c.args.lists.now in
    let e = c.loop-entity.entity in
    record {
      filled = c.in_ok-add_entity.ensures ∙ ap (λ o. o ++ flat_map (held s l (e + 1)) (members (s.parent (e + 1)) o)) c.loop-entity.invariant.filled ∙ live_next s l e;
      within = omega (arith, c.loop-entity-test.true, c.entity_count-count.ensures.count);
    }
