use Rattle.std.proofs.Common.{[], ◌∷◌, sym, refl, subst}
use Rattle.opa_case.specs.declared.question.Question.{Question}
use Rattle.opa_session.specs.Readers.Indexes.{TakesReads}
use Rattle.opa_session.specs.declared.readers.index.Index.{Index}
use Rattle.opa_session.proofs.readers.Taking.{line_taken, list_taken}
use Rattle.opa_session.proofs.readers.take.take_question.Goals as goal

pub returns-in-Attr : goal.returns-in-Attr
returns-in-Attr c =
    let old = c.args.index.now in let new : Index = record { lines = c.take_at.new.cells; lists = c.args.index.now.lists } in
    subst (λ (q : Question). TakesReads (q ∷ []) c.args.slot.now.attr c.args.slot.now.inst old new) (sym c.in-Attr.is) (line_taken old new c.in-Attr.read c.in-Attr.at c.args.slot.now.attr c.args.slot.now.inst c.take_at.ensures refl)

pub returns-in-Members : goal.returns-in-Members
returns-in-Members c =
    let old = c.args.index.now in let new : Index = record { lines = c.args.index.now.lines; lists = c.take_at-in-Members.new.cells } in
    subst (λ (q : Question). TakesReads (q ∷ []) c.args.slot.now.attr c.args.slot.now.inst old new) (sym c.in-Members.is) (list_taken old new c.in-Members.rel c.in-Members.at c.args.slot.now.attr c.args.slot.now.inst c.take_at-in-Members.ensures refl)
