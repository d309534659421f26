use Rattle.std.proofs.Common.{rules, of_calls, ◌∙◌, ap}
use Rattle.opa_line.proofs.Zipping.{ok_weaker}
use Rattle.opa_mean.specs.Meaning.{first_value}
use Rattle.opa_code.specs.OverLines.Lines.{values_at}
use Rattle.opa_code.proofs.over_lines.Adding.{first_is, bests_told}
use Rattle.opa_code.proofs.over_lines.items.Items.best_by_day.Goals as goal

pub returns : goal.returns
returns c =
    let held = c.args.self.now in
    ok_weaker c.zip.result _ _ (λ l h values gathered. bests_told _ _ held.gathering values c.in_ok-bests.bests c.first_of-first.result.now l c.requires (c.in_ok-bests.ensures values gathered)
    (λ d lt. c.first_of-first.ensures d lt ∙ ap (λ ls. first_value (values_at ls d)) c.as_slice.ensures ∙ first_is values held gathered d lt)
    (λ p q z says. search (rules, of_calls, says)) h) c.zip.ensures
