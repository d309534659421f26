use Rattle.std.proofs.Common.{List, length, eqb, ◌∙◌, ap}
use Rattle.opa_case.specs.declared.question.Question.{Question}
use Rattle.opa_session.proofs.readers.Sifting.{some_left}
use Rattle.opa_session.proofs.readers.difference.has_others.Goals as goal

pub returns : goal.returns
returns c =
    some_left c.args.questions.now c.args.others.now c.in_ok-left.left c.is_empty.result c.in_ok-left.ensures (c.is_empty.ensures ∙ ap (λ (qs : List Question). eqb (length qs) 0) c.as_slice-rest.ensures)
