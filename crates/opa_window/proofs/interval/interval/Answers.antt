use Rattle.std.proofs.Common.{rules, of_calls}
use Rattle.opa_date.specs.declared.TheConstants.{DAYS}
use Rattle.opa_value.specs.declared.value.Value.TheVariants as value
use Rattle.opa_line.proofs.Zipping.{ok_weaker, joined_stands}
use Rattle.opa_window.specs.Days.{day_value}
use Rattle.opa_window.specs.Folds.{fold_of}
use Rattle.opa_window.specs.Windows as meant
use Rattle.opa_window.proofs.interval.interval.Goals as goal

pub returns : goal.returns
returns c =
    ok_weaker c.zip.result _ _ (λ l h. joined_stands _ _ (meant.in_window (fold_of c.args.fold) (day_value c.args.x.now)) value.Unknown value.Unknown DAYS c.args.start.now c.args.end.now l
    (λ p q z says. search (rules, of_calls, says)) h) c.zip.ensures
