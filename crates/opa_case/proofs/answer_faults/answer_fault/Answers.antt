use Rattle.std.proofs.Common.{true, false, sym, ap, ◌∙◌}
use Rattle.std.specs.List.{list_all}
use Rattle.opa_case.specs.Shapes.{shape_of}
use Rattle.opa_case.specs.Steps.{has_kind, in_bounds}
use Rattle.opa_case.proofs.AnswerFaults.{kind_fault, range_fault, long_fault, last_fault}
use Rattle.opa_case.proofs.answer_faults.answer_fault.Goals as goal

pub returns-then-not-have_kind-clause-value : goal.returns-then-not-have_kind-clause-value
returns-then-not-have_kind-clause-value g c =
    kind_fault (shape_of c.args.model.now) c.args.ruled.now (g.S.Standing.case c.args.case.now) c.args.attr c.args.inst.now c.args.line.now
    (sym c.is_unanswerable.ensures ∙ c.if-is_unanswerable.false)
    (sym (c.have_kind.ensures ∙ ap (λ a. list_all (λ p. has_kind a.kind p.1) c.args.line.now) c.attribute_of-attribute.ensures.value) ∙ c.if-not-have_kind.true)

pub returns-then-not-are_in_bounds-clause-value : goal.returns-then-not-are_in_bounds-clause-value
returns-then-not-are_in_bounds-clause-value g c =
    range_fault (shape_of c.args.model.now) c.args.ruled.now (g.S.Standing.case c.args.case.now) c.args.attr c.args.inst.now c.args.line.now
    (sym c.is_unanswerable.ensures ∙ c.if-is_unanswerable.false)
    (sym (c.have_kind.ensures ∙ ap (λ a. list_all (λ p. has_kind a.kind p.1) c.args.line.now) c.attribute_of-attribute.ensures.value) ∙ c.if-not-have_kind.false)
    (sym (c.are_in_bounds.ensures ∙ ap (λ a. list_all (λ p. in_bounds a p.1) c.args.line.now) c.attribute_of-attribute.ensures.value) ∙ c.if-not-are_in_bounds.true)

pub returns-then-is_long-clause-value : goal.returns-then-is_long-clause-value
returns-then-is_long-clause-value g c =
    long_fault (shape_of c.args.model.now) c.args.ruled.now (g.S.Standing.case c.args.case.now) c.args.attr c.args.inst.now c.args.line.now
    (sym c.is_unanswerable.ensures ∙ c.if-is_unanswerable.false)
    (sym (c.have_kind.ensures ∙ ap (λ a. list_all (λ p. has_kind a.kind p.1) c.args.line.now) c.attribute_of-attribute.ensures.value) ∙ c.if-not-have_kind.false)
    (sym (c.are_in_bounds.ensures ∙ ap (λ a. list_all (λ p. in_bounds a p.1) c.args.line.now) c.attribute_of-attribute.ensures.value) ∙ c.if-not-are_in_bounds.false)
    (sym c.is_long.ensures ∙ c.if-is_long.true)

pub returns-then-is_over-clause-value : goal.returns-then-is_over-clause-value
returns-then-is_over-clause-value g c =
    last_fault (shape_of c.args.model.now) c.args.ruled.now (g.S.Standing.case c.args.case.now) c.args.attr c.args.inst.now c.args.line.now
    true
    (sym c.is_unanswerable.ensures ∙ c.if-is_unanswerable.false)
    (sym (c.have_kind.ensures ∙ ap (λ a. list_all (λ p. has_kind a.kind p.1) c.args.line.now) c.attribute_of-attribute.ensures.value) ∙ c.if-not-have_kind.false)
    (sym (c.are_in_bounds.ensures ∙ ap (λ a. list_all (λ p. in_bounds a p.1) c.args.line.now) c.attribute_of-attribute.ensures.value) ∙ c.if-not-are_in_bounds.false)
    (sym c.is_long.ensures ∙ c.if-is_long.false)
    (sym c.is_over.ensures ∙ c.if-is_over.true)

pub returns-clause-value : goal.returns-clause-value
returns-clause-value g c =
    last_fault (shape_of c.args.model.now) c.args.ruled.now (g.S.Standing.case c.args.case.now) c.args.attr c.args.inst.now c.args.line.now
    false
    (sym c.is_unanswerable.ensures ∙ c.if-is_unanswerable.false)
    (sym (c.have_kind.ensures ∙ ap (λ a. list_all (λ p. has_kind a.kind p.1) c.args.line.now) c.attribute_of-attribute.ensures.value) ∙ c.if-not-have_kind.false)
    (sym (c.are_in_bounds.ensures ∙ ap (λ a. list_all (λ p. in_bounds a p.1) c.args.line.now) c.attribute_of-attribute.ensures.value) ∙ c.if-not-are_in_bounds.false)
    (sym c.is_long.ensures ∙ c.if-is_long.false)
    (sym c.is_over.ensures ∙ c.if-is_over.false)
