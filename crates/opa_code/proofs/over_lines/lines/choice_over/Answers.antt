use Rattle.std.proofs.Common.{◌∙◌, ap, sym}
use Rattle.opa_value.specs.declared.value.Value.TheVariants.{Bool as Truth}
use Rattle.opa_window.specs.Days.{day_value}
use Rattle.opa_code.proofs.over_lines.Choosing.{value_chosen, rest_chosen}
use Rattle.opa_code.proofs.over_lines.lines.choice_over.Goals as goal

pub returns-in-Some-true : goal.returns-in-Some-true
returns-in-Some-true c = value_chosen c.args.cond c.args.value c.args.rest (λ d. ap (λ l. day_value l d) (sym c.line.ensures) ∙ c.in-Some-true.ensures d ∙ ap (λ b. Truth b) c.in-Some-true.field-0-test)

pub returns-in-Some-false : goal.returns-in-Some-false
returns-in-Some-false c = rest_chosen c.args.cond c.args.value c.args.rest (λ d. ap (λ l. day_value l d) (sym c.line.ensures) ∙ c.in-Some-false.ensures d ∙ ap (λ b. Truth b) c.in-Some-false.field-0-test)
