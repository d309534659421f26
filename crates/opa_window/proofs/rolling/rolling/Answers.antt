use Rattle.std.proofs.Common.{rules, of_calls, ◌∙◌, ap, Some, false}
use Rattle.opa_date.specs.declared.TheConstants.{DAYS}
use Rattle.opa_value.specs.declared.value.Value.TheVariants as value
use Rattle.opa_line.proofs.Zipping.{ok_weaker, joined_stands}
use Rattle.opa_window.specs.Days.{day_value}
use Rattle.opa_window.specs.Marks.{has_mark, seen}
use Rattle.opa_window.specs.Tables.{open_value, unless_found}
use Rattle.opa_window.proofs.LastDays.{rolling_table}
use Rattle.opa_window.proofs.rolling.rolling.Goals as goal

pub returns : goal.returns
returns c =
    ok_weaker c.zip-2.result _ _ (λ l h d lt.
    joined_stands _ _ (unless_found c.args.decided) false value.Unknown DAYS c.in_ok-found.found c.in_ok-open.open l (λ p q z says. search (rules, of_calls, says)) h d lt
    ∙ ap Some (rolling_table c.args.decided c.args.days d (day_value c.args.x.now) c.in_ok-found.found c.in_ok-unknown.unknown c.in_ok-uncertain.uncertain c.in_ok-open.open
    (c.in_ok-found.ensures d lt ∙ ap (λ m. Some (seen c.args.days (λ e. has_mark m (day_value c.args.x.now e)) d)) c.mark_of.ensures) (c.in_ok-unknown.ensures d lt) (c.in_ok-uncertain.ensures d lt)
    (joined_stands _ _ (open_value c.args.decided) false false DAYS c.in_ok-unknown.unknown c.in_ok-uncertain.uncertain c.in_ok-open.open (λ p q z says. search (rules, of_calls, says)) c.in_ok-open.ensures d lt)))
    c.zip-2.ensures
