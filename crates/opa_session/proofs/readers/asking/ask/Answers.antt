use Rattle.std.proofs.Common.{sym, refl, subst}
use Rattle.opa_case.specs.declared.question.Question.{Question}
use Rattle.opa_session.specs.Readers.Touches.{AddsAsked}
use Rattle.opa_session.specs.declared.readers.asked.Asked.{Asked}
use Rattle.opa_session.proofs.readers.Sifting.{line_asked, list_asked}
use Rattle.opa_session.proofs.readers.asking.ask.Goals as goal

pub returns-in_ok-insert-in-Attr : goal.returns-in_ok-insert-in-Attr
returns-in_ok-insert-in-Attr c =
    let old = c.args.asked.now in let new : Asked = record { lines = c.insert.new.self; lists = c.args.asked.now.lists } in
    subst (λ (q : Question). AddsAsked q old new) (sym c.in-Attr.is) (line_asked old new c.in-Attr.attr c.in-Attr.inst c.in_ok-key-in-Attr.key _ c.in_ok-key-in-Attr.ensures c.in_ok-insert-in-Attr.ensures.ok refl)

pub returns-in_ok-insert-in-Members : goal.returns-in_ok-insert-in-Members
returns-in_ok-insert-in-Members c =
    let old = c.args.asked.now in let new : Asked = record { lines = c.args.asked.now.lines; lists = c.insert-in-Members.new.self } in
    subst (λ (q : Question). AddsAsked q old new) (sym c.in-Members.is) (list_asked old new c.in-Members.rel c.in-Members.inst c.in_ok-key-in-Members.key _ c.in_ok-key-in-Members.ensures c.in_ok-insert-in-Members.ensures.ok refl)
