use Rattle.std.proofs.Common.{◌<◌, ◌+◌, length, take, subst, sym, arith}
use Rattle.opa_batch.specs.Aims.{AreAimed}
use Rattle.opa_batch.proofs.AimLaws.{aims_more}
use Rattle.opa_batch.proofs.aim.aims_of.Goals as goal

pub loop-place-preserved : goal.loop-place-preserved
loop-place-preserved c =
    let m = c.args.model.now in
    let heads = c.args.heads.now in
    let place = c.loop-place.place in
    let lt : place < length heads = omega arith in
    subst (AreAimed m (take (place + 1) heads)) (sym c.in_ok-push.ensures.items)
    (aims_more m heads c.loop-place.aims.items place c.index-heads-place.result c.in_ok-aim.aim c.loop-place.invariant lt c.index-heads-place.is c.in_ok-aim.ensures)
