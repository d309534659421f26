use Rattle.std.proofs.Common.{◌∙◌, Some, ap, sym}
use Rattle.opa_value.specs.Truth.{unless_open}
use Rattle.opa_line.proofs.Zipping.{ok_weaker}
use Rattle.opa_code.specs.OverLines.Lines.{values_at}
use Rattle.opa_code.proofs.over_lines.Operating.{no_operands, many_operands}
use Rattle.opa_code.proofs.over_lines.lines.op_over.Goals as goal

pub returns-in-empty : goal.returns-in-empty
returns-in-empty c =
    ok_weaker c.gathered_over.result _ _ (λ l h d lt. h d lt ∙ ap Some (ap (unless_open (values_at c.args.operands.now d)) (sym (no_operands c.args.kind c.args.operands.now d c.in-empty.len_below)))) c.gathered_over.ensures

pub returns-in-len3-up : goal.returns-in-len3-up
returns-in-len3-up c =
    ok_weaker c.gathered_over-in-len3-up.result _ _ (λ l h d lt. h d lt ∙ ap Some (ap (unless_open (values_at c.args.operands.now d)) (sym (many_operands c.args.kind c.args.operands.now d c.in-len3-up.len_at_least)))) c.gathered_over-in-len3-up.ensures
