use Rattle.std.proofs.Common.{◌∙◌, ap}
use Rattle.opa_io.proofs.Places.{take_whole}
use Rattle.opa_session.proofs.telling.Placed.{slot_at}
use Rattle.opa_session.specs.Readers.Renewing.{fresh_among}
use Rattle.opa_session.proofs.readers.Renewed.{fresh_next}
use Rattle.opa_session.proofs.readers.fresh.fresh_of.Goals as goal

pub add_fresh-requires-clause-slot : goal.add_fresh-requires-clause-slot
add_fresh-requires-clause-slot c = slot_at c.args.base.now c.args.new.now c.args.slots.now c.loop-attr.attr-index c.loop-attr-item.result c.requires.slots c.loop-attr-test.true c.loop-attr-item.is

pub loop-attr-preserved : goal.loop-attr-preserved
loop-attr-preserved c =
    fresh_next c.args.base.now c.args.old.now c.args.new.now c.args.slots.now c.loop-attr.attr-index c.loop-attr-item.result c.loop-attr.found c.add_fresh.new.found c.loop-attr-test.true c.loop-attr-item.is c.loop-attr.invariant c.in_ok-add_fresh.ensures

pub returns : goal.returns
returns c = c.loop-attr.invariant ∙ ap (fresh_among c.args.base.now c.args.old.now c.args.new.now) (take_whole c.args.slots.now c.loop-attr.attr-index c.loop-attr-test.false)
