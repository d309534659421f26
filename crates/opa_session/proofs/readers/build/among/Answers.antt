use Rattle.std.proofs.Common.{subst}
use Rattle.opa_io.proofs.Places.{take_whole}
use Rattle.opa_session.proofs.telling.Placed.{slot_at}
use Rattle.opa_session.specs.Readers.Indexes.{readers_in, AreReadersAmong}
use Rattle.opa_session.proofs.readers.Indexed.{among_none, among_next}
use Rattle.opa_session.proofs.readers.build.among.Goals as goal

pub add_reader-requires-clause-slot : goal.add_reader-requires-clause-slot
add_reader-requires-clause-slot c = slot_at c.args.base.now c.args.case.now c.args.slots.now c.loop-attr.attr-index c.loop-attr-item.result c.requires.slots c.loop-attr-test.true c.loop-attr-item.is

pub loop-attr-init : goal.loop-attr-init
loop-attr-init c = among_none c.args.base.now c.args.case.now (readers_in c.no_readers-index.result) c.no_readers-index.ensures

pub loop-attr-preserved : goal.loop-attr-preserved
loop-attr-preserved c =
    among_next c.args.base.now c.args.case.now c.args.slots.now c.loop-attr.attr-index c.loop-attr-item.result c.loop-attr.index c.add_reader.new.index c.loop-attr-test.true c.loop-attr-item.is c.loop-attr.invariant c.in_ok-add_reader.ensures

pub returns : goal.returns
returns c = subst (λ xs. AreReadersAmong c.args.base.now c.args.case.now xs (readers_in c.loop-attr.index)) (take_whole c.args.slots.now c.loop-attr.attr-index c.loop-attr-test.false) c.loop-attr.invariant
