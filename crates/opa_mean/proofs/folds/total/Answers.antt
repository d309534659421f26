use Rattle.std.proofs.Common.{rules}
use Rattle.opa_mean.proofs.Folding.{sum_step}
use Rattle.opa_mean.proofs.folds.total.Goals as goal

pub loop-value-preserved : goal.loop-value-preserved
loop-value-preserved c =
    let e = sum_step c.args.values.now c.loop-value.rest.now c.in-Some.later.now c.in-Some.value.now _ c.count_of.result c.plus-sum.result
    c.in-Some.ensures c.loop-value.invariant c.count_of.ensures.value c.count_of.ensures.low c.count_of.ensures.high (search rules) in
    search rules
