use Rattle.std.proofs.Common.{◌∙◌, subst}
use Rattle.opa_date.specs.declared.TheConstants.{DAYS}
use Rattle.opa_line.specs.Lines.{StandsFor}
use Rattle.opa_line.proofs.Zipping.{ok_weaker}
use Rattle.opa_code.specs.OverLines.Lines.{values_at}
use Rattle.opa_code.specs.OverLines.Tallies.{gather_of}
use Rattle.opa_code.proofs.over_lines.lines.gathered.Goals as goal

pub returns : goal.returns
returns c =
    ok_weaker c.gathered_over.result _ _ (λ l h. subst (λ ls. StandsFor DAYS (λ d. gather_of c.args.gathering (values_at ls d)) l) (c.as_slice.ensures ∙ c.in_ok-operands.ensures) h) c.gathered_over.ensures
