use Rattle.std.specs.Prelude.{take}
use Rattle.std.specs.List.{list_any}
use Rattle.std.specs.FinMap.{get}
use Rattle.opa_case.proofs.Taken.{then_taken, any_next}
use Rattle.opa_session.specs.Store.Drops.{goes_at}
use Rattle.opa_session.proofs.store.dropping.drop_all.Goals as goal

pub loop-inst-preserved : goal.loop-inst-preserved
loop-inst-preserved c a j =
    let k = c.loop-inst.inst-index in
    let x = c.loop-inst-item.result in
    let went = c.args.went.now in
    let r = c.args.base.now in
    let owners = c.args.owners.now in
    then_taken (get c.args.entries.now (a, j)) _ _ (list_any (λ g. goes_at r owners g.0 a j) (take k went)) (λ _. goes_at r owners x.0 a j) _ (c.loop-inst.invariant a j) (c.drop_of.ensures a j)
    (any_next (λ g. goes_at r owners g.0 a j) went k x c.loop-inst-test.true c.loop-inst-item.is)
