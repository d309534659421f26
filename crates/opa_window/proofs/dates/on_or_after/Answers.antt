use Rattle.std.proofs.Common.{rules, of_calls, ◌∙◌, ap, Some}
use Rattle.opa_date.specs.declared.TheConstants.{DAYS}
use Rattle.opa_value.specs.declared.value.Value.TheVariants as value
use Rattle.opa_value.specs.Truth.{not_of}
use Rattle.opa_line.specs.Lines.{value_or}
use Rattle.opa_line.proofs.Zipping.{ok_weaker, mapped_stands}
use Rattle.opa_window.specs.Days.{day_value}
use Rattle.opa_window.proofs.Turning.{not_before}
use Rattle.opa_window.proofs.dates.on_or_after.Goals as goal

pub returns : goal.returns
returns c =
    ok_weaker c.map.result _ _ (λ l h d lt.
    mapped_stands _ _ not_of value.Unknown DAYS c.in_ok-before_it.before_it l (λ p z says. search (rules, of_calls, says)) h d lt
    ∙ ap (λ v. Some (not_of (value_or value.Unknown v))) (c.in_ok-before_it.ensures d lt)
    ∙ ap Some (not_before (day_value c.args.date.now d) d))
    c.map.ensures
