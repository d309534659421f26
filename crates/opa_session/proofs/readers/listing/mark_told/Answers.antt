use Rattle.std.proofs.Common.{List, subst}
use Rattle.std.specs.Option.{option_copied}
use Rattle.opa_io.proofs.Places.{take_whole}
use Rattle.opa_case.specs.Overlays.{relisted_case}
use Rattle.opa_mean.specs.Reached.Slots.{slots_in}
use Rattle.opa_case.specs.declared.question.Question.{Question}
use Rattle.opa_session.specs.Readers.Indexes.{readers_in}
use Rattle.opa_session.specs.Readers.Waits.{IsLiveReader, WaitsBesides}
use Rattle.opa_session.proofs.readers.Coming.{told_none, told_next}
use Rattle.opa_session.proofs.readers.listing.mark_told.Goals as goal

pub loop-question-init : goal.loop-question-init
loop-question-init c = told_none c.args.base.now (relisted_case c.args.next.now) (readers_in c.args.index.now) c.args.tasks.now

pub loop-question-preserved : goal.loop-question-preserved
loop-question-preserved c =
    told_next c.args.base.now (relisted_case c.args.next.now) (readers_in c.args.index.now) c.args.told.now c.loop-question.question-index c.question-item.result (slots_in (option_copied c.of-reading.result)) c.args.tasks.now c.loop-question.tasks c.mark_live.new.tasks
    c.loop-question-test.true c.question-item.is c.of-reading.ensures c.loop-question.invariant c.in_ok-mark_live.ensures

pub returns : goal.returns
returns c =
    subst (λ (qs : List Question). WaitsBesides c.args.base.now (IsLiveReader (relisted_case c.args.next.now) (readers_in c.args.index.now) qs) c.args.tasks.now c.loop-question.tasks)
    (take_whole c.args.told.now c.loop-question.question-index c.loop-question-test.false) c.loop-question.invariant
