use Rattle.std.proofs.Common.{sym, ◌∙◌, ap, List}
use Rattle.opa_case.specs.declared.question.Question.{Question}
use Rattle.opa_mean.specs.Sameness.{same_lists, same_question}
use Rattle.opa_session.proofs.telling.Placed.{placed_reads}
use Rattle.opa_session.proofs.telling.reach.same_reads.Goals as goal

pub returns-then-same_questions-clause-placed : goal.returns-then-same_questions-clause-placed
returns-then-same_questions-clause-placed c =
    placed_reads c.reads_are_lower.ensures c.args.base.now c.args.old.now c.args.new.now c.requires.before c.requires.after c.args.attr c.args.inst.now c.requires.live c.requires.slot c.in_ok-before.before c.in_ok-after.after
    c.in_ok-before.ensures c.in_ok-after.ensures
    (sym (ap (λ (xs : List Question). same_lists same_question xs c.in_ok-after.after) c.as_slice-first.ensures) ∙ sym (ap (same_lists same_question c.as_slice-first.result.now) c.as_slice-second.ensures) ∙ sym c.same_questions.ensures ∙ c.if-same_questions.true)
