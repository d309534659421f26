use Rattle.std.proofs.Common.{◌<◌, arith, length}
use Rattle.opa_mean.proofs.goals.Filling.{one_told}
use Rattle.opa_mean.proofs.goals.ranks.settle_level.Goals as goal

pub loop-attr-preserved : goal.loop-attr-preserved
loop-attr-preserved c =
    let lt : c.loop-attr.attr-index < length c.args.level.now = omega (arith, c.loop-attr-test.true) in
    (c.settle.ensures.long, one_told c.args.base.now c.args.level.now c.loop-attr.attr-index _ c.args.free.now.items c.loop-attr.free.items c.settle.new.free.items lt c.loop-attr.invariant.1 c.settle.ensures.done)
