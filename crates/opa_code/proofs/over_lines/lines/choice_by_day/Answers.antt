use Rattle.std.proofs.Common.{rules, of_calls, ◌∙◌, ap, Some}
use Rattle.opa_date.specs.declared.TheConstants.{DAYS}
use Rattle.opa_value.specs.declared.value.Value.TheVariants.{Unknown}
use Rattle.opa_line.specs.Lines.{value_or}
use Rattle.opa_line.proofs.Zipping.{ok_weaker, joined_stands}
use Rattle.opa_window.specs.Days.{day_value}
use Rattle.opa_code.specs.OverLines.Choices.{choice_of, taken_or}
use Rattle.opa_code.specs.declared.over_lines.choice.Choice.TheVariants.{Left}
use Rattle.opa_code.proofs.over_lines.Choosing.{chooses}
use Rattle.opa_code.proofs.over_lines.lines.choice_by_day.Goals as goal

pub returns : goal.returns
returns c =
    let cond = c.args.cond.now in let value = c.args.value.now in let rest = c.args.rest.now in
    ok_weaker c.zip-2.result _ _ (λ l h d lt.
    joined_stands _ _ taken_or Left Unknown DAYS c.in_ok-choices.choices rest l (λ p q z says. search (rules, of_calls, says)) h d lt
    ∙ ap Some (ap (λ o. taken_or (value_or Left o) (day_value rest d)) (joined_stands _ _ choice_of Unknown Unknown DAYS cond value c.in_ok-choices.choices (λ p q z says. search (rules, of_calls, says)) c.in_ok-choices.ensures d lt)
    ∙ chooses (day_value cond d) (day_value value d) (day_value rest d))) c.zip-2.ensures
