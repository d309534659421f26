use Rattle.std.proofs.Common.{List, ap, sym, ◌∙◌, subst}
use Rattle.opa_case.specs.declared.question.Question.{Question}
use Rattle.opa_mean.specs.Reached.Slots.{pairs_of}
use Rattle.opa_session.specs.Settlement.Starts.{AreTold}
use Rattle.opa_session.specs.Readers.Indexes.{readers_in}
use Rattle.opa_session.proofs.readers.beginning.begin.Goals as goal

pub start_change-requires-clause-fresh : goal.start_change-requires-clause-fresh
start_change-requires-clause-fresh c = ap pairs_of c.as_slice-slots.ensures ∙ c.in_ok-fresh.ensures

pub start_change-requires-clause-told : goal.start_change-requires-clause-told
start_change-requires-clause-told c =
    subst (λ (qs : List Question). AreTold c.args.base.now c.args.held.now c.args.next.now (readers_in c.args.index.now) qs) (sym c.as_slice-questions.ensures)
    (record { differ = c.in_ok-told.ensures.differ; all = c.in_ok-told.ensures.all })
