use Rattle.opa_listen.proofs.Readiness.{Readied}
use Rattle.opa_listen.proofs.ready.ready_all.Given as goal

abbrev pub invariant-loop-place : goal.invariant-loop-place
invariant-loop-place g l = Readied (λ b. (goal.Listener-dyn g (b.vtable, b.value)).state b.value) l.changes l.fn.listeners.items l.listeners.items l.place
