use Rattle.opa_line.proofs.Zipping.{ok_weaker}
use Rattle.opa_code.proofs.over_lines.Halving.{one_item}
use Rattle.opa_verify.proofs.listed.PartLaws.{item_stands}
use Rattle.opa_verify.proofs.listed.members.item_shades.Goals as goal

pub returns-in-len1 : goal.returns-in-len1
returns-in-len1 c =
    ok_weaker c.same_shades.result _ _ (λ l h. item_stands c.args.quant c.args.lines.now c.line-item.result l (one_item c.args.lines.now c.line-item.result c.in-len1.len_at_least c.in-len1.len_below c.line-item.is) h) c.same_shades.ensures
