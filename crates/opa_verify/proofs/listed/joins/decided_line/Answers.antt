use Rattle.std.proofs.Common.{rules, of_calls, subst}
use Rattle.opa_date.specs.declared.TheConstants.{DAYS}
use Rattle.opa_value.specs.declared.value.Value.TheVariants.{Unknown}
use Rattle.opa_line.specs.Lines.{StandsFor}
use Rattle.opa_line.proofs.Zipping.{ok_weaker, joined_stands}
use Rattle.opa_code.specs.OverLines.Lines.{values_at}
use Rattle.opa_code.specs.OverLines.Tallies.{gather_of}
use Rattle.opa_code.specs.declared.over_lines.gathering.Gathering.TheVariants as gathering
use Rattle.opa_verify.specs.Listed.ShadeLines.{unless_decided}
use Rattle.opa_verify.proofs.listed.PartLaws.{decided_stands}
use Rattle.opa_verify.proofs.listed.joins.decided_line.Goals as goal

pub returns : goal.returns
returns c =
    let counted = c.in_ok-counted.counted.items in let gaps = c.in_ok-gaps.gaps.items in
    let values = subst (λ g. StandsFor DAYS (λ d. gather_of g (values_at counted d)) c.in_ok-values.values) c.table.ensures
    (subst (λ ls. StandsFor DAYS (λ d. gather_of c.table.result (values_at ls d)) c.in_ok-values.values) c.deref.ensures.value c.in_ok-values.ensures) in
    let gap = subst (λ ls. StandsFor DAYS (λ d. gather_of gathering.Any (values_at ls d)) c.in_ok-gap.gap) c.deref-2.ensures.value c.in_ok-gap.ensures in
    ok_weaker c.zip.result _ _ (λ l h. decided_stands c.args.neutral c.args.lines.now counted gaps c.in_ok-values.values c.in_ok-gap.gap l c.in_ok-counted.ensures c.in_ok-gaps.ensures values gap
    (joined_stands _ _ (unless_decided c.args.neutral) Unknown Unknown DAYS c.in_ok-values.values c.in_ok-gap.gap l (λ p q z says. search (rules, of_calls, says)) h)) c.zip.ensures
