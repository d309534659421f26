use Rattle.opa_line.proofs.Zipping.{ok_weaker}
use Rattle.opa_verify.proofs.listed.WindowLaws.{date_stands}
use Rattle.opa_verify.proofs.listed.windows.date_shades.Goals as goal

pub returns : goal.returns
returns c =
    ok_weaker c.joined_line.result _ _ (λ l h. date_stands c.args.date.now c.args.x.now c.in_ok-dates.dates c.in_ok-part_line.field-0 c.in_ok-part_line-3.field-0 c.in_ok-part_line-2.field-0 c.in_ok-values.values c.in_ok-there.there c.in_ok-gaps.gaps l
    c.in_ok-dates.ensures c.in_ok-part_line.ensures c.in_ok-part_line-3.ensures c.in_ok-part_line-2.ensures c.in_ok-values.ensures c.in_ok-there.ensures c.in_ok-gaps.ensures h) c.joined_line.ensures
