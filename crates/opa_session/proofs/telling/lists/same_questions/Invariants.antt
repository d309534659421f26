use Rattle.std.proofs.Common.{◌≡◌, drop}
use Rattle.opa_mean.specs.Sameness.{same_lists, same_question}
use Rattle.opa_session.proofs.telling.lists.same_questions.Given as goal

abbrev pub invariant-loop-question : goal.invariant-loop-question
invariant-loop-question l = same_lists same_question l.first l.second ≡ same_lists same_question (drop l.question-index l.first) l.others
