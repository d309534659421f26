use Rattle.std.proofs.Common.{subst}
use Rattle.opa_io.proofs.Places.{take_whole}
use Rattle.opa_session.specs.Readers.Indexes.{TakesReads}
use Rattle.opa_session.proofs.readers.Taking.{takes_none, takes_next}
use Rattle.opa_session.proofs.readers.take.take_questions.Goals as goal

pub loop-question-init : goal.loop-question-init
loop-question-init c = takes_none c.args.slot.now.attr c.args.slot.now.inst c.args.index.now

pub loop-question-preserved : goal.loop-question-preserved
loop-question-preserved c =
    takes_next c.args.slot.now.attr c.args.slot.now.inst c.args.questions.now c.loop-question.question-index c.question-item.result c.args.index.now c.loop-question.index c.take_question.new.index c.loop-question-test.true c.question-item.is c.loop-question.invariant c.take_question.ensures

pub returns : goal.returns
returns c = subst (λ qs. TakesReads qs c.args.slot.now.attr c.args.slot.now.inst c.args.index.now c.loop-question.index) (take_whole c.args.questions.now c.loop-question.question-index c.loop-question-test.false) c.loop-question.invariant
