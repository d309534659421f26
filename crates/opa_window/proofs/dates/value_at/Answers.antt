use Rattle.std.proofs.Common.{rules, of_calls}
use Rattle.opa_date.specs.declared.TheConstants.{DAYS}
use Rattle.opa_value.specs.declared.value.Value.TheVariants as value
use Rattle.opa_line.proofs.Zipping.{ok_weaker, mapped_stands}
use Rattle.opa_window.specs.Days.{day_value}
use Rattle.opa_window.specs.Windows as meant
use Rattle.opa_window.proofs.dates.value_at.Goals as goal

pub returns : goal.returns
returns c = ok_weaker c.map.result _ _ (λ l h. mapped_stands _ _ (meant.value_at (day_value c.args.x.now)) value.Unknown DAYS c.args.date.now l (λ p z says. search (rules, of_calls, says)) h) c.map.ensures
