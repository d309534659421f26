use Rattle.std.proofs.Common.{List, sym, subst}
use Rattle.opa_case.specs.declared.question.Question.{Question}
use Rattle.opa_session.specs.Settlement.Starts.{AreTold}
use Rattle.opa_session.specs.Readers.Indexes.{readers_in}
use Rattle.opa_session.proofs.readers.ByAnswers.{answers_tell, nothing_fresh}
use Rattle.opa_session.proofs.readers.beginning.begin_answers.Goals as goal

pub start_change-requires-clause-fresh : goal.start_change-requires-clause-fresh
start_change-requires-clause-fresh c = sym (nothing_fresh c.args.base.now c.args.held.now c.args.next.now c.requires.answers c.nothing_is_fresh.ensures c.requires.after)

pub start_change-requires-clause-told : goal.start_change-requires-clause-told
start_change-requires-clause-told c =
    subst (λ (qs : List Question). AreTold c.args.base.now c.args.held.now c.args.next.now (readers_in c.args.index.now) qs) (sym c.as_slice-questions.ensures)
    (answers_tell c.args.base.now c.args.held.now c.args.next.now c.requires.answers (readers_in c.args.index.now) c.in_ok-told.told c.in_ok-told.ensures)
