use Rattle.opa_verify.proofs.listed.PartLaws.{parts_more}
use Rattle.opa_verify.proofs.listed.parts.part_lines.Goals as goal

pub loop-line-preserved : goal.loop-line-preserved
loop-line-preserved c =
    parts_more c.args.part c.args.lines.now c.loop-line.line-index c.line-item.result c.loop-line.parts.items _ c.in_ok-told.told c.loop-line-test.true c.line-item.is c.loop-line.invariant c.in_ok-add.ensures c.in_ok-told.ensures
