use Rattle.std.proofs.Common.{ap, ◌∙◌, filter, length}
use Rattle.opa_io.proofs.Places.{take_whole}
use Rattle.opa_model.specs.declared.ids.AttrId.{AttrId}
use Rattle.opa_cells.specs.declared.instance.InstanceId.{InstanceId}
use Rattle.opa_mean.specs.Changes.{is_dirty}
use Rattle.opa_mean.specs.Given.{base_of, facts_of}
use Rattle.opa_session.proofs.telling.Placed.{slot_at}
use Rattle.opa_session.proofs.telling.Reached.{count_more, count_low}
use Rattle.opa_session.proofs.telling.reach.count_dirty.Goals as goal

pub is_dirty-requires-clause-slot : goal.is_dirty-requires-clause-slot
is_dirty-requires-clause-slot g c = slot_at (g.K.Held.rules c.args.new.now) (g.K.Held.held c.args.new.now) c.args.slots.now c.loop-attr.attr-index c.loop-attr-item.result c.requires.slots c.loop-attr-test.true c.loop-attr-item.is

pub loop-attr-preserved : goal.loop-attr-preserved
loop-attr-preserved g c =
    let p = λ (s : AttrId × InstanceId). is_dirty (base_of (g.K.Held.rules c.args.new.now)) (facts_of (g.H.Held.held c.args.old.now)) (facts_of (g.K.Held.held c.args.new.now)) s.0 s.1 in (
      count_more p c.args.slots.now c.loop-attr.attr-index c.loop-attr.count c.counted-count.result c.loop-attr-item.result c.in_ok-reached.reached c.loop-attr-test.true c.loop-attr-item.is c.loop-attr.invariant.0 c.in_ok-reached.ensures c.counted-count.ensures,
      count_low c.loop-attr.count c.counted-count.result c.loop-attr.attr-index c.in_ok-reached.reached c.loop-attr.invariant.1 c.counted-count.ensures,
    )

pub returns : goal.returns
returns g c =
    let p = λ (s : AttrId × InstanceId). is_dirty (base_of (g.K.Held.rules c.args.new.now)) (facts_of (g.H.Held.held c.args.old.now)) (facts_of (g.K.Held.held c.args.new.now)) s.0 s.1 in
    c.loop-attr.invariant.0 ∙ ap (λ xs. length (filter p xs)) (take_whole c.args.slots.now c.loop-attr.attr-index c.loop-attr-test.false)
