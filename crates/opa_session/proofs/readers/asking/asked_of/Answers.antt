use Rattle.std.proofs.Common.{subst}
use Rattle.opa_io.proofs.Places.{take_whole}
use Rattle.opa_session.specs.Readers.Touches.{AreAsked}
use Rattle.opa_session.proofs.readers.Sifting.{asked_none, asked_next}
use Rattle.opa_session.proofs.readers.asking.asked_of.Goals as goal

pub loop-question-init : goal.loop-question-init
loop-question-init c = asked_none c.none_asked-asked.result c.none_asked-asked.ensures

pub loop-question-preserved : goal.loop-question-preserved
loop-question-preserved c =
    asked_next c.args.questions.now c.loop-question.question-index c.question-item.result c.loop-question.asked c.ask.new.asked c.loop-question-test.true c.question-item.is c.loop-question.invariant c.in_ok-ask.ensures

pub returns : goal.returns
returns c = subst (λ qs. AreAsked qs c.loop-question.asked) (take_whole c.args.questions.now c.loop-question.question-index c.loop-question-test.false) c.loop-question.invariant
