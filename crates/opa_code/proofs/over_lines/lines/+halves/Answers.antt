use Rattle.std.proofs.Common.{rules, of_calls, ◌∙◌, ◌∷◌, [], sym, ap, subst}
use Rattle.opa_line.proofs.Zipping.{ok_weaker}
use Rattle.opa_code.specs.OverLines.Extremes.{AreBests}
use Rattle.opa_code.specs.OverLines.Lines.{values_at}
use Rattle.opa_code.proofs.over_lines.Halving.{halves_join, bests_joined, no_items, one_item, two_items}
use Rattle.opa_code.proofs.over_lines.lines.+halves.Goals as goal

pub returns-in-empty : goal.returns-in-empty
returns-in-empty t c =
    ok_weaker c.constant.result _ _ (λ l h d lt. (c.none.result, subst (λ ls. AreBests c.args.most (values_at ls d) c.none.result) (sym (no_items c.args.operands.now c.in-empty.len_below)) (c.none.ensures c.args.most), h d lt)) c.constant.ensures.everywhere

pub returns-in-len1 : goal.returns-in-len1
returns-in-len1 t c =
    ok_weaker c.one_best.result _ _ (λ l h d lt. let x = h d lt in
    (x.0, subst (λ ls. AreBests c.args.most (values_at ls d) x.0) (sym (one_item c.args.operands.now c.operand-item.result c.in-len1.len_at_least c.in-len1.len_below c.operand-item.is ∙ ap (λ p. p ∷ []) (sym c.line.ensures))) (x.1.bests c.args.most), x.2)) c.one_best.ensures

pub returns-in-len2 : goal.returns-in-len2
returns-in-len2 t c =
    ok_weaker c.two_bests.result _ _ (λ l h d lt. let e = h d lt in (
      e.0,
      subst (λ ls. AreBests c.args.most (values_at ls d) e.0) (sym (two_items c.args.operands.now c.x-item.result c.y-item.result c.in-len2.len_at_least c.in-len2.len_below c.x-item.is c.y-item.is
          ∙ ap (λ p. p ∷ c.y-item.result ∷ []) (sym c.line-in-len2.ensures) ∙ ap (λ p. c.line-in-len2.result.now ∷ p ∷ []) (sym c.line-in-len2-2.ensures))) e.1,
      e.2,
    )) c.two_bests.ensures

pub returns-in_ok-second-in_default : goal.returns-in_ok-second-in_default
returns-in_ok-second-in_default t c =
    let parts = halves_join c.args.operands.now c.split_at.result.0.now c.split_at.result.1.now _ c.split_at.ensures.front c.split_at.ensures.back in
    ok_weaker c.zip.result _ _ (λ l h. bests_joined _ _ c.args.most c.args.operands.now c.split_at.result.0.now c.split_at.result.1.now c.in_ok-first-in_default.first c.in_ok-second-in_default.second l parts c.in_ok-first-in_default.ensures c.in_ok-second-in_default.ensures
    (λ p q z says. search (rules, of_calls, says)) h) c.zip.ensures
