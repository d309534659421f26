use Rattle.opa_line.proofs.Zipping.{ok_weaker}
use Rattle.opa_code.proofs.over_lines.Adding.{gathered_beside}
use Rattle.opa_code.proofs.over_lines.items.Items.told_by_day.Goals as goal

pub returns-else-is_best : goal.returns-else-is_best
returns-else-is_best c =
    ok_weaker c.swept_over.result _ _ (λ line h values held. h values (gathered_beside values c.args.self.now c.as_slice.result.now c.as_slice.ensures held)) c.swept_over.ensures
