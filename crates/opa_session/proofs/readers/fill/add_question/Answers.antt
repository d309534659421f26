use Rattle.std.proofs.Common.{[], ◌∷◌, sym, refl, subst}
use Rattle.opa_case.specs.declared.question.Question.{Question}
use Rattle.opa_session.specs.Readers.Indexes.{AddsReads}
use Rattle.opa_session.specs.declared.readers.index.Index.{Index}
use Rattle.opa_session.proofs.readers.Indexed.{line_added, list_added}
use Rattle.opa_session.proofs.readers.fill.add_question.Goals as goal

pub returns-in_ok-add_at-in-Attr-clause-adds : goal.returns-in_ok-add_at-in-Attr-clause-adds
returns-in_ok-add_at-in-Attr-clause-adds c =
    let old = c.args.index.now in let new : Index = record { lines = c.add_at.new.cells; lists = c.args.index.now.lists } in
    subst (λ (q : Question). AddsReads (q ∷ []) c.args.attr c.args.inst.now old new) (sym c.in-Attr.is) (line_added old new c.in-Attr.read c.in-Attr.at c.args.attr c.args.inst.now c.in_ok-add_at-in-Attr.ensures.adds refl)

pub returns-in_ok-add_at-in-Members-clause-adds : goal.returns-in_ok-add_at-in-Members-clause-adds
returns-in_ok-add_at-in-Members-clause-adds c =
    let old = c.args.index.now in let new : Index = record { lines = c.args.index.now.lines; lists = c.add_at-in-Members.new.cells } in
    subst (λ (q : Question). AddsReads (q ∷ []) c.args.attr c.args.inst.now old new) (sym c.in-Members.is) (list_added old new c.in-Members.rel c.in-Members.at c.args.attr c.args.inst.now c.in_ok-add_at-in-Members.ensures.adds refl)
