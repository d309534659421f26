use Rattle.std.proofs.Common.{rules, of_calls, subst}
use Rattle.opa_line.proofs.Zipping.{ok_weaker}
use Rattle.opa_code.proofs.over_lines.Halving.{best_stands, HaveBests}
use Rattle.opa_code.proofs.over_lines.lines.best_by_day.Goals as goal

pub returns : goal.returns
returns c =
    ok_weaker c.zip.result _ _ (λ l h. best_stands _ _ c.args.gathering c.args.operands.now c.in_ok-bests.bests c.first_of-first.result.now l c.requires
    (subst (λ m. HaveBests m c.args.operands.now c.in_ok-bests.bests) c.is_most.ensures c.in_ok-bests.ensures) c.first_of-first.ensures
    (λ p q z says. search (rules, of_calls, says)) h) c.zip.ensures
