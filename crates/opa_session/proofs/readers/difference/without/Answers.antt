use Rattle.std.proofs.Common.{subst, sym, ◌∙◌}
use Rattle.std.proofs.lemmas.Bool.{eqb-true}
use Rattle.opa_io.proofs.Places.{take_whole}
use Rattle.opa_session.specs.Readers.Touches.{AreWithout}
use Rattle.opa_session.proofs.readers.Sifting.{sift_start, sift_next, none_left}
use Rattle.opa_session.proofs.readers.difference.without.Goals as goal

pub loop-question-init : goal.loop-question-init
loop-question-init c = sift_start c.args.others.now c.in_ok-passed.passed c.new-left.result c.in_ok-passed.ensures c.new-left.ensures

pub loop-question-preserved : goal.loop-question-preserved
loop-question-preserved c =
    sift_next c.args.others.now c.args.questions.now c.loop-question.question-index c.question-item.result c.loop-question.passed c.sift.new.passed c.loop-question.left c.sift.new.left c.loop-question-test.true c.question-item.is c.loop-question.invariant c.in_ok-sift.ensures

pub returns : goal.returns
returns c = subst (λ qs. AreWithout qs c.args.others.now c.loop-question.left) (take_whole c.args.questions.now c.loop-question.question-index c.loop-question-test.false) c.loop-question.invariant.kept_are

pub returns-then-is_empty : goal.returns-then-is_empty
returns-then-is_empty c = none_left c.args.questions.now c.args.others.now c.new.result (eqb-true _ _ (sym c.is_empty.ensures ∙ c.if-is_empty.true)) c.new.ensures
