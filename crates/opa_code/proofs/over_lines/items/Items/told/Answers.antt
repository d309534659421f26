use Rattle.std.proofs.Common.{◌∙◌, ap, refl, arith}
use Rattle.opa_line.proofs.Zipping.{ok_weaker}
use Rattle.opa_mean.specs.Meaning.{first_value}
use Rattle.opa_code.specs.OverLines.Lines.{values_at}
use Rattle.opa_code.specs.OverLines.Tallies.{told}
use Rattle.opa_code.proofs.over_lines.Adding.{none_of, plain_told}
use Rattle.opa_code.proofs.over_lines.items.Items.told.Goals as goal

pub returns-in_ok-value : goal.returns-in_ok-value
returns-in_ok-value c =
    let held = c.args.self.now in
    ok_weaker c.constant.result _ _ (λ line h values gathered. plain_told held.gathering values held c.in_ok-value.value line refl (none_of held.dated (omega arith))
    (c.in_ok-value.ensures ∙ ap (λ ls. told held.gathering held.constant (first_value (values_at ls 0))) c.as_slice.ensures) h gathered) c.constant.ensures.everywhere
