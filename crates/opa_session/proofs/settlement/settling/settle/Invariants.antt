use Rattle.std.proofs.Common.{◌≡◌, ◌+◌, length}
use Rattle.opa_mean.specs.Reached.Settling.{IsSettling, SameLines, left, reached, shift}
use Rattle.opa_session.specs.Settlement.Orders.{StandBefore}
use Rattle.opa_session.specs.Settlement.Tasks.{AreRanked, slots_of}
use Rattle.opa_session.specs.Store.Stores.{kept_of, staged_of}
use Rattle.opa_session.proofs.settlement.settling.settle.Given as goal

abbrev pub invariant-loop-task : goal.invariant-loop-task
invariant-loop-task g l = record {
  kept : SameLines (kept_of l.fn.store) (kept_of l.store);
  ranked : AreRanked l.base l.tasks;
  settling : IsSettling (shift l.base l.held (g.N.Next.next l.next)) (staged_of l.store) (slots_of l.tasks);
  before : StandBefore l.base l.store.slots (slots_of l.tasks);
  listed : length l.store.slots + left (shift l.base l.held (g.N.Next.next l.next)) (staged_of l.store) ≡ reached (shift l.base l.held (g.N.Next.next l.next));
  counted : l.steps + left (shift l.base l.held (g.N.Next.next l.next)) (staged_of l.store) ≡ l.fn.steps + reached (shift l.base l.held (g.N.Next.next l.next));
}

abbrev pub decreases-loop-task : goal.decreases-loop-task
decreases-loop-task g l = left (shift l.base l.held (g.N.Next.next l.next)) (staged_of l.store)
