use Rattle.std.proofs.Common.{List, refl, ◌∙◌, subst}
use Rattle.opa_io.proofs.Places.{take_whole}
use Rattle.opa_model.specs.declared.ids.AttrId.{AttrId}
use Rattle.opa_session.specs.Readers.Waits.{IsOwnSlotAmong, WaitsBesides}
use Rattle.opa_session.proofs.readers.Coming.{own_none, own_next, own_all}
use Rattle.opa_session.proofs.readers.listing.mark_slots_of.Goals as goal

pub loop-attr-init : goal.loop-attr-init
loop-attr-init c = own_none c.args.base.now c.args.inst.now c.args.tasks.now

pub loop-attr-preserved : goal.loop-attr-preserved
loop-attr-preserved c =
    own_next c.args.base.now c.args.inst.now c.attributes-attrs.result.now c.loop-attr.attr-index _ c.args.tasks.now c.loop-attr.tasks c.mark_slot.new.tasks c.loop-attr-test.true c.loop-attr.invariant c.in_ok-mark_slot.ensures

pub returns : goal.returns
returns c =
    own_all c.args.base.now c.args.inst.now c.attributes-attrs.result.now c.args.inst.now.entity.0 c.args.tasks.now c.loop-attr.tasks (c.attributes-attrs.ensures ∙ c.requires c.args.inst.now.entity.0) refl
    (subst (λ (xs : List AttrId). WaitsBesides c.args.base.now (IsOwnSlotAmong c.args.base.now c.args.inst.now xs) c.args.tasks.now c.loop-attr.tasks) (take_whole c.attributes-attrs.result.now c.loop-attr.attr-index c.loop-attr-test.false) c.loop-attr.invariant)
