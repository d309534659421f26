use Rattle.std.proofs.Common.{subst}
use Rattle.opa_line.proofs.Zipping.{ok_weaker}
use Rattle.opa_code.specs.OverLines.Tallies.{AreConstant}
use Rattle.opa_code.proofs.over_lines.Adding.{constants_told}
use Rattle.opa_code.proofs.over_lines.lines.gathered_over.Goals as goal

pub returns-in_ok-value-in-Some : goal.returns-in_ok-value-in-Some
returns-in_ok-value-in-Some c =
    ok_weaker c.constant.result _ _ (λ line h. constants_told c.args.gathering c.args.operands.now c.in-Some.tally c.in_ok-value-in-Some.value line
    (subst (λ m. AreConstant m c.args.operands.now c.in-Some.tally) c.is_most.ensures c.in-Some.ensures) c.in_ok-value-in-Some.ensures h) c.constant.ensures.everywhere
