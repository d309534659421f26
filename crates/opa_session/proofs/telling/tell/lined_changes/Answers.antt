use Rattle.std.proofs.Common.{List, sym, subst}
use Rattle.std.specs.List.{AllZip}
use Rattle.opa_io.proofs.Places.{take_whole}
use Rattle.opa_model.specs.declared.ids.AttrId.{AttrId}
use Rattle.opa_cells.specs.declared.instance.InstanceId.{InstanceId}
use Rattle.opa_mean.specs.Changes.{Changed}
use Rattle.opa_mean.specs.Given.{base_of, facts_of}
use Rattle.opa_session.specs.Telling.Telling.{TellsOf, changes_among}
use Rattle.opa_session.proofs.telling.Placed.{slot_at}
use Rattle.opa_session.proofs.telling.Told.{among_more}
use Rattle.opa_session.proofs.telling.tell.lined_changes.Goals as goal

pub add_change-requires-clause-slot : goal.add_change-requires-clause-slot
add_change-requires-clause-slot g c = slot_at (g.K.Lined.rules c.args.new.now) (g.K.Lined.over c.args.new.now) c.args.slots.now c.loop-attr.attr-index c.loop-attr-item.result c.requires.slots c.loop-attr-test.true c.loop-attr-item.is

pub loop-attr-preserved : goal.loop-attr-preserved
loop-attr-preserved g c =
    let b = base_of (g.K.Lined.rules c.args.new.now) in let o = facts_of (g.H.Lined.over c.args.old.now) in let n = facts_of (g.K.Lined.over c.args.new.now) in
    subst (λ (xs : List Changed). AllZip (TellsOf (g.K.Lined.rules c.args.new.now).model) xs c.add_change.new.told.items) (sym (among_more b o n c.args.slots.now c.loop-attr.attr-index c.loop-attr-item.result c.loop-attr-test.true c.loop-attr-item.is))
    (c.in_ok-add_change.ensures _ c.loop-attr.invariant)

pub returns : goal.returns
returns g c =
    subst (λ (xs : List (AttrId × InstanceId)). AllZip (TellsOf (g.K.Lined.rules c.args.new.now).model) (changes_among (base_of (g.K.Lined.rules c.args.new.now)) (facts_of (g.H.Lined.over c.args.old.now)) (facts_of (g.K.Lined.over c.args.new.now)) xs) c.loop-attr.told.items)
    (take_whole c.args.slots.now c.loop-attr.attr-index c.loop-attr-test.false) c.loop-attr.invariant
