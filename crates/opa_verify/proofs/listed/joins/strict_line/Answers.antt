use Rattle.std.proofs.Common.{subst}
use Rattle.opa_date.specs.declared.TheConstants.{DAYS}
use Rattle.opa_value.specs.Truth.{strict}
use Rattle.opa_line.specs.Lines.{StandsFor}
use Rattle.opa_line.proofs.Zipping.{ok_weaker}
use Rattle.opa_mean.specs.Operations.{op_of}
use Rattle.opa_code.specs.OverLines.Lines.{values_at}
use Rattle.opa_code.specs.OverLines.Tallies.{gather_of}
use Rattle.opa_code.specs.declared.over_lines.gathering.Gathering.TheVariants as gathering
use Rattle.opa_verify.proofs.listed.PartLaws.{joined_stand}
use Rattle.opa_verify.proofs.listed.joins.strict_line.Goals as goal

pub returns : goal.returns
returns c =
    let values = c.in_ok-values.values.items in let gaps = c.in_ok-gaps.gaps.items in
    let value = subst (λ ls. StandsFor DAYS (λ d. strict (op_of c.args.kind) (values_at ls d)) c.in_ok-value.value) c.deref.ensures.value c.in_ok-value.ensures in
    let gap = subst (λ ls. StandsFor DAYS (λ d. gather_of gathering.Any (values_at ls d)) c.in_ok-gap.gap) c.deref-2.ensures.value c.in_ok-gap.ensures in
    ok_weaker c.joined_line.result _ _ (λ l h. joined_stand (strict (op_of c.args.kind)) c.args.lines.now values gaps c.in_ok-value.value c.in_ok-gap.gap l c.in_ok-values.ensures c.in_ok-gaps.ensures value gap h) c.joined_line.ensures
