use Rattle.std.proofs.Common.{subst}
use Rattle.opa_io.proofs.Places.{take_whole}
use Rattle.opa_io.proofs.Results.{always_on_err}
use Rattle.opa_session.specs.Readers.Indexes.{AddsReads}
use Rattle.opa_session.proofs.readers.Indexed.{reads_none, reads_next}
use Rattle.opa_session.proofs.readers.Taking.{reads_some}
use Rattle.opa_session.proofs.readers.fill.add_questions.Goals as goal

pub loop-question-init : goal.loop-question-init
loop-question-init c = reads_none c.args.attr c.args.inst.now c.args.index.now

pub loop-question-preserved : goal.loop-question-preserved
loop-question-preserved c =
    reads_next c.args.attr c.args.inst.now c.args.questions.now c.loop-question.question-index c.question-item.result c.args.index.now c.loop-question.index c.add_question.new.index c.loop-question-test.true c.question-item.is c.loop-question.invariant c.in_ok-add_question.ensures.adds

pub returns-clause-adds : goal.returns-clause-adds
returns-clause-adds c = subst (λ qs. AddsReads qs c.args.attr c.args.inst.now c.args.index.now c.loop-question.index) (take_whole c.args.questions.now c.loop-question.question-index c.loop-question-test.false) c.loop-question.invariant

pub returns-in_err-add_question-clause-err : goal.returns-in_err-add_question-clause-err
returns-in_err-add_question-clause-err c =
    always_on_err c.from_residual.result
    (reads_some c.args.attr c.args.inst.now c.args.questions.now c.loop-question.question-index c.args.index.now c.loop-question.index c.add_question.new.index c.loop-question.invariant c.in_err-add_question.ensures.err)
