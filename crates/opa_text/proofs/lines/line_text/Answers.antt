use Rattle.std.proofs.Common.{ℕ, sym, ◌∙◌}
use Rattle.opa_value.specs.declared.value.Value.{Value}
use Rattle.opa_text.specs.Texts.{IsOfCalendar}
use Rattle.opa_text.proofs.Lists.{first_all, later_all, days_below, days_all}
use Rattle.opa_text.proofs.lines.line_text.Goals as goal

pub value_text-requires : goal.value_text-requires
value_text-requires c =
    first_all (λ (p : ℕ × Value). IsOfCalendar p.1) c.args.line.now c.in-Some.first.now c.in-Some.changes.now (sym c.segments.ensures.value ∙ c.in-Some.ensures) (days_all IsOfCalendar c.args.line.now c.segments.ensures.form c.requires)

pub changes_text-requires-clause-days : goal.changes_text-requires-clause-days
changes_text-requires-clause-days c = days_below c.args.line.now c.in-Some.first.now c.in-Some.changes.now (sym c.segments.ensures.value ∙ c.in-Some.ensures) c.segments.ensures.form

pub changes_text-requires-clause-values : goal.changes_text-requires-clause-values
changes_text-requires-clause-values c =
    later_all (λ (p : ℕ × Value). IsOfCalendar p.1) c.args.line.now c.in-Some.first.now c.in-Some.changes.now (sym c.segments.ensures.value ∙ c.in-Some.ensures) (days_all IsOfCalendar c.args.line.now c.segments.ensures.form c.requires)
