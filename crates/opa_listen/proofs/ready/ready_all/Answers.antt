use Rattle.std.proofs.Common.{arith}
use Rattle.opa_listen.proofs.Readiness.{readied_start, readied_more, readied_err}
use Rattle.opa_listen.proofs.ready.ready_all.Goals as goal

pub loop-place-init : goal.loop-place-init
loop-place-init g c = readied_start _ c.args.changes.now c.args.listeners.now.items

pub returns-in_err-ready_one-clause-same : goal.returns-in_err-ready_one-clause-same
returns-in_err-ready_one-clause-same g c = readied_err _ _ _ _ _ c.index_mut.result.now c.ready_one.new.listener c.loop-place.invariant c.index_mut.ensures.value c.in_err-ready_one.ensures.same

pub loop-place-preserved : goal.loop-place-preserved
loop-place-preserved g c =
    readied_more _ _ _ _ _ c.index_mut.result.now c.ready_one.new.listener c.loop-place.invariant (omega arith) c.index_mut.ensures.value c.in_ok-ready_one.ensures.same c.in_ok-ready_one.ensures.room
