use Rattle.std.proofs.Common.{◌≡◌, map, take}
use Rattle.opa_listen.specs.Telling.{each_watched}
use Rattle.opa_listen.proofs.ready.copies.Given as goal

abbrev pub invariant-loop-listener : goal.invariant-loop-listener
invariant-loop-listener g l =
    map (λ w. w.items) l.all.items ≡ each_watched l.changes (map (λ b. (goal.Listener-dyn g (b.vtable, b.value)).state b.value) (take l.listener-index l.listeners.items))
