use Rattle.std.proofs.Common.{◌∙◌, subst}
use Rattle.opa_date.specs.declared.TheConstants.{DAYS}
use Rattle.opa_value.specs.Truth.{strict}
use Rattle.opa_line.specs.Lines.{StandsFor}
use Rattle.opa_line.proofs.Zipping.{ok_weaker}
use Rattle.opa_mean.specs.Operations.{op_of}
use Rattle.opa_code.specs.OverLines.Lines.{values_at}
use Rattle.opa_code.proofs.over_lines.lines.op_line.Goals as goal

pub returns : goal.returns
returns c =
    ok_weaker c.op_over.result _ _ (λ l h. subst (λ ls. StandsFor DAYS (λ d. strict (op_of c.args.kind) (values_at ls d)) l) (c.as_slice.ensures ∙ c.in_ok-operands.ensures) h) c.op_over.ensures
