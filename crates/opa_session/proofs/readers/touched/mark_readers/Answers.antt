use Rattle.std.proofs.Common.{subst}
use Rattle.std.specs.Option.{option_copied}
use Rattle.opa_io.proofs.Places.{take_whole}
use Rattle.opa_mean.specs.Reached.Slots.{slots_in}
use Rattle.opa_session.specs.Settlement.Starts.{MarksReaders}
use Rattle.opa_session.proofs.settlement.Changed.{readers_start, readers_one, readers_next}
use Rattle.opa_session.specs.Readers.Indexes.{readers_in}
use Rattle.opa_session.proofs.readers.touched.mark_readers.Goals as goal

pub loop-question-init : goal.loop-question-init
loop-question-init c = readers_start c.args.base.now (readers_in c.args.index.now) c.args.tasks.now

pub loop-question-preserved : goal.loop-question-preserved
loop-question-preserved c =
    readers_next c.args.base.now (readers_in c.args.index.now) c.args.told.now c.loop-question.question-index c.question-item.result _ c.loop-question.tasks c.mark_set.new.tasks c.loop-question-test.true c.question-item.is c.loop-question.invariant
    (readers_one c.args.base.now (readers_in c.args.index.now) c.question-item.result (slots_in (option_copied c.of-reading.result)) c.of-reading.ensures c.loop-question.tasks c.mark_set.new.tasks c.in_ok-mark_set.ensures)

pub returns : goal.returns
returns c = subst (λ qs. MarksReaders c.args.base.now (readers_in c.args.index.now) qs c.args.tasks.now c.loop-question.tasks) (take_whole c.args.told.now c.loop-question.question-index c.loop-question-test.false) c.loop-question.invariant
