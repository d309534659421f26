use Rattle.std.proofs.Common.{◌∙◌, ap, cond, None}
use Rattle.std.specs.Prelude.{◌&&◌}
use Rattle.std.specs.FinMap.{get}
use Rattle.std.proofs.lemmas.List.{take_all}
use Rattle.opa_session.specs.Store.Drops.{is_named, slot_at}
use Rattle.opa_session.proofs.store.Dropped.{drops_next}
use Rattle.opa_session.proofs.store.dropping.drop_of.Goals as goal

pub loop-attr-preserved : goal.loop-attr-preserved
loop-attr-preserved c a j =
    drops_next c.args.base.now c.args.inst.now c.attributes-attrs.result.now c.loop-attr.attr-index _ a j (get c.args.entries.now (a, j)) _ _ c.loop-attr-test.true (c.loop-attr.invariant a j) (c.drop_slot.ensures a j)

pub returns : goal.returns
returns c a j =
    c.loop-attr.invariant a j
    ∙ ap (λ attrs. cond (is_named attrs a && slot_at c.args.base.now c.args.inst.now a j) None (get c.args.entries.now (a, j))) (take_all c.loop-attr.attr-index c.attributes-attrs.result.now c.loop-attr-test.false ∙ c.attributes-attrs.ensures)
