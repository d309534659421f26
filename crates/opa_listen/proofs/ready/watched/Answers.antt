use Rattle.std.proofs.Common.{◌∷◌, ◌++◌, [], take, true, false, sym, ap, ◌∙◌}
use Rattle.opa_listen.specs.declared.change.Change.{Change}
use Rattle.opa_listen.specs.Listening.{is_watched, watched_of}
use Rattle.opa_listen.proofs.Readiness.{watched_more}
use Rattle.opa_listen.proofs.ready.watched.Goals as goal
use Rattle.opa_listen.proofs.ready.watched.Goals.{then-wants+in_ok-copy+in_ok-push, else-wants}

pub loop-change-preserved : goal.loop-change-preserved
loop-change-preserved g c =
    let attrs = ((goal.Listener-dyn g (c.args.listener.now.vtable, c.args.listener.now.value)).state c.args.listener.now.value).watched in
    let more = watched_more attrs c.args.changes.now c.loop-change.change-index c.change-item.result in
    elim c.if-wants.branch [
      | then-wants+in_ok-copy+in_ok-push w ↦
          ap (λ v. v.items) w.found-is ∙ w.in_ok-push.ensures.items ∙ ap (λ xs. xs ++ w.in_ok-copy.field-0 ∷ []) c.loop-change.invariant
          ∙ ap (λ (x : Change). watched_of attrs (take c.loop-change.change-index c.args.changes.now) ++ x ∷ []) (w.in_ok-copy.ensures ∙ c.change-item.is)
          ∙ sym (more true c.loop-change-test.true (sym w.if-wants.true ∙ c.wants.ensures ∙ ap (λ (x : Change). is_watched attrs x.attr) c.change-item.is))
      | else-wants w ↦
          ap (λ v. v.items) w.found-is ∙ c.loop-change.invariant
          ∙ sym (more false c.loop-change-test.true (sym w.if-wants.false ∙ c.wants.ensures ∙ ap (λ (x : Change). is_watched attrs x.attr) c.change-item.is))
    ]
