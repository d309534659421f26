use Rattle.std.proofs.Common.{map, ap, arith}
use Rattle.std.specs.Vec.Iter.{into_iter_items}
use Rattle.opa_io.proofs.Lists.{no_length}
use Rattle.opa_listen.proofs.Keeping.{told_end}
use Rattle.opa_listen.proofs.telling.tell.Goals as goal

pub returns : goal.returns
returns g c =
    let e = no_length (into_iter_items c.loop-list.list-iterator) (omega (arith, c.in-None.ensures.steps.0, c.loop-list.invariant.sized)) in
    told_end _ _ _ _ _ _ c.loop-list.invariant.told (ap (map _) e)
