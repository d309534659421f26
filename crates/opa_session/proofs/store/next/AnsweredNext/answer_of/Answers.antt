use Rattle.std.proofs.Common.{sym, ◌∙◌}
use Rattle.std.specs.Option.{option_copied}
use Rattle.opa_session.proofs.store.Nexting.{answer_here, answer_there}
use Rattle.opa_session.proofs.store.next.AnsweredNext.answer_of.Goals as goal
use Rattle.opa_session.proofs.store.next.AnsweredNext.answer_of.Goals.{else-attr-self-via-then-attr-self+else-equals, else-attr-self-via-else-attr-self}

pub returns-then-equals : goal.returns-then-equals
returns-then-equals c =
    answer_here c.args.self.now.case.now.answers c.args.attr c.args.self.now.attr c.args.inst.now c.args.self.now.inst.now (option_copied c.args.self.now.line) c.if-attr-self.true (sym c.equals.ensures ∙ c.if-equals.true)

pub returns-else-attr-self : goal.returns-else-attr-self
returns-else-attr-self c =
    c.answer_of.ensures.value ∙ answer_there c.args.self.now.case.now.answers c.args.attr c.args.self.now.attr c.args.inst.now c.args.self.now.inst.now (option_copied c.args.self.now.line) (λ both.
    elim c.else-attr-self.branch [
      | else-attr-self-via-then-attr-self+else-equals w ↦ cc (w.equals.ensures, w.if-equals.false, both.1)
      | else-attr-self-via-else-attr-self w ↦ w.if-attr-self.false both.0
    ])
