use Rattle.opa_session.proofs.settlement.MarkingLive.{LiveOnward}
use Rattle.opa_session.proofs.settlement.living.mark_each_live.Given as goal

abbrev pub invariant-loop-slot : goal.invariant-loop-slot
invariant-loop-slot g l = LiveOnward l.base (g.N.Next.next l.next) l.slots.keys l.slot-iterator l.fn.tasks l.tasks
