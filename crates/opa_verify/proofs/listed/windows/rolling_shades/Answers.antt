use Rattle.opa_line.proofs.Zipping.{ok_weaker}
use Rattle.opa_verify.proofs.listed.WindowLaws.{rolling_stands}
use Rattle.opa_verify.proofs.listed.windows.rolling_shades.Goals as goal

pub returns : goal.returns
returns c =
    ok_weaker c.joined_line.result _ _ (λ l h. rolling_stands c.args.always c.args.days c.args.x.now c.in_ok-part_line.field-0 c.in_ok-part_line-2.field-0 c.in_ok-values.values c.in_ok-gaps.gaps l
    c.in_ok-part_line.ensures c.in_ok-part_line-2.ensures c.in_ok-values.ensures c.in_ok-gaps.ensures h) c.joined_line.ensures
