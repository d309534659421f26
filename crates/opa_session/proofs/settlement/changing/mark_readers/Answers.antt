use Rattle.opa_session.proofs.settlement.Changed.{readers_start, readers_next}
use Rattle.opa_session.proofs.settlement.changing.mark_readers.Goals as goal

pub loop-question-init : goal.loop-question-init
loop-question-init g c = readers_start c.args.base.now (g.R.Reading.reading c.args.reading.now) c.args.tasks.now

pub loop-question-preserved : goal.loop-question-preserved
loop-question-preserved g c =
    readers_next c.args.base.now (g.R.Reading.reading c.args.reading.now) c.args.told.now c.loop-question.question-index c.question-item.result _ c.loop-question.tasks c.mark_question.new.tasks c.loop-question-test.true c.question-item.is c.loop-question.invariant c.in_ok-mark_question.ensures
