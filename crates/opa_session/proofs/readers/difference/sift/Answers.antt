use Rattle.std.proofs.Common.{◌++◌, ◌∷◌, [], ◌∙◌, sym, ap}
use Rattle.opa_case.specs.declared.question.Question.{Question}
use Rattle.opa_session.proofs.readers.Sifting.{sift_passed, sift_new}
use Rattle.opa_session.proofs.readers.difference.sift.Goals as goal

pub returns-then-has : goal.returns-then-has
returns-then-has c = sift_passed c.args.question.now c.args.passed.now c.args.left.now (sym c.has.ensures ∙ c.if-has.true)

pub returns : goal.returns
returns c =
    sift_new c.args.question.now c.args.passed.now c.ask.new.asked c.args.left.now c.push.new.self (sym c.has.ensures ∙ c.if-has.false) c.in_ok-ask.ensures
    (c.in_ok-push.ensures.ok ∙ ap (λ (q : Question). c.args.left.now ++ q ∷ []) c.in_ok-question.ensures)
