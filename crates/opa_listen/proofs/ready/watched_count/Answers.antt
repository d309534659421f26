use Rattle.std.proofs.Common.{length, take, get_or, ◌∷◌, [], true, false, sym, ap, ◌∙◌, arith, length-append}
use Rattle.opa_listen.specs.declared.change.Change.{Change}
use Rattle.opa_listen.specs.Listening.{is_watched, watched_of}
use Rattle.opa_listen.proofs.Readiness.{watched_more}
use Rattle.opa_listen.proofs.ready.watched_count.Goals as goal
use Rattle.opa_listen.proofs.ready.watched_count.Goals.{then-wants, else-wants}

pub loop-change-preserved : goal.loop-change-preserved
loop-change-preserved g c =
    let attrs = ((goal.Listener-dyn g (c.args.listener.now.vtable, c.args.listener.now.value)).state c.args.listener.now.value).watched in
    let more = watched_more attrs c.args.changes.now c.loop-change.change-index c.change-item.result in
    let front = watched_of attrs (take c.loop-change.change-index c.args.changes.now) in
    elim c.if-wants.branch [
      | then-wants w ↦
          let m = ap length (more true c.loop-change-test.true (sym w.if-wants.true ∙ c.wants.ensures ∙ ap (λ (x : Change). is_watched attrs x.attr) c.change-item.is)) in
          record {
            count = omega (arith, w.count-is, c.loop-change.invariant.count, m, length-append front (get_or c.args.changes.now c.loop-change.change-index c.change-item.result ∷ []));
            small = omega (arith, w.count-is, c.loop-change.invariant.small);
          }
      | else-wants w ↦
          let m = ap length (more false c.loop-change-test.true (sym w.if-wants.false ∙ c.wants.ensures ∙ ap (λ (x : Change). is_watched attrs x.attr) c.change-item.is)) in
          record {
            count = omega (arith, w.count-is, c.loop-change.invariant.count, m);
            small = omega (arith, w.count-is, c.loop-change.invariant.small);
          }
    ]
