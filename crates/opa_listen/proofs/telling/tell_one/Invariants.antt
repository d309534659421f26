use Rattle.std.proofs.Common.{◌≡◌, length}
use Rattle.std.specs.Vec.Iter.{into_iter_items, into_iter_len}
use Rattle.opa_listen.proofs.Keeping.{Kept}
use Rattle.opa_listen.proofs.telling.tell_one.Given as goal

abbrev pub invariant-loop-change : goal.invariant-loop-change
invariant-loop-change g l = record {
  can_next : (goal.iterator-loop-change g).can_next l.change-iterator;
  is_finite : (goal.iterator-loop-change g).is_finite l.change-iterator;
  sized : into_iter_len l.change-iterator ≡ length (into_iter_items l.change-iterator);
  kept : Kept l.fn.changes.items ((goal.Listener-dyn g (l.fn.listener.vtable, l.fn.listener.value)).state l.fn.listener.value) ((goal.Listener-dyn g (l.listener.vtable, l.listener.value)).state l.listener.value) (into_iter_items l.change-iterator);
}
