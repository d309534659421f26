use Rattle.std.proofs.Common.{◌<◌, arith, length}
use Rattle.opa_rules.proofs.reviewing.SettledLaws.{one_told}
use Rattle.opa_rules.proofs.reviewing.settling.settle_level.Goals as goal

pub loop-attr-preserved : goal.loop-attr-preserved
loop-attr-preserved c =
    let lt : c.loop-attr.attr-index < length c.args.level.now = omega (arith, c.loop-attr-test.true) in
    (c.settle.ensures.long, one_told c.args.base.now c.args.level.now c.loop-attr.attr-index _ c.args.marks.now.items c.loop-attr.marks.items c.settle.new.marks.items lt c.loop-attr.invariant.1 c.in_ok-settle.ensures.done)
