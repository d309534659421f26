use Rattle.std.proofs.Common.{subst}
use Rattle.opa_date.specs.declared.TheConstants.{DAYS}
use Rattle.opa_line.specs.Lines.{StandsFor}
use Rattle.opa_line.proofs.Zipping.{ok_weaker}
use Rattle.opa_window.specs.Days.{day_value}
use Rattle.opa_code.proofs.over_lines.Choosing.{chosen_always}
use Rattle.opa_code.proofs.over_lines.lines.choice_line.Goals as goal

pub returns-in-Some : goal.returns-in-Some
returns-in-Some c =
    ok_weaker c.same_line.result _ _ (λ l h. chosen_always c.in-Some.holds c.args.cond.now c.args.value.now c.args.rest.now l c.in-Some.ensures
    (subst (λ x. StandsFor DAYS (day_value x) l) c.either.ensures h)) c.same_line.ensures
