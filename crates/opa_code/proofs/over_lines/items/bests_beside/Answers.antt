use Rattle.std.proofs.Common.{rules, of_calls}
use Rattle.opa_line.proofs.Zipping.{ok_weaker}
use Rattle.opa_code.proofs.over_lines.Adding.{bests_beside}
use Rattle.opa_code.proofs.over_lines.items.bests_beside.Goals as goal

pub returns : goal.returns
returns c =
    ok_weaker c.map.result _ _ (λ l h. bests_beside _ _ c.args.most c.args.operands.now c.args.before c.in_ok-halves.halves l c.in_ok-halves.ensures (λ p z says. search (rules, of_calls, says)) h) c.map.ensures
