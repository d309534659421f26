use Rattle.std.proofs.Common.{◌≡◌, length, map}
use Rattle.std.specs.Vec.Iter.{into_iter_items, into_iter_len}
use Rattle.opa_listen.proofs.Keeping.{Told}
use Rattle.opa_listen.proofs.telling.tell.Given as goal

abbrev pub invariant-loop-list : goal.invariant-loop-list
invariant-loop-list g l = record {
  can_next : (goal.iterator-loop-list g).can_next l.list-iterator;
  is_finite : (goal.iterator-loop-list g).is_finite l.list-iterator;
  sized : into_iter_len l.list-iterator ≡ length (into_iter_items l.list-iterator);
  told : Told (λ b. (goal.Listener-dyn g (b.vtable, b.value)).state b.value) (map (λ v. v.items) l.fn.changes.items) l.fn.listeners.items l.listeners.items (map (λ v. v.items) (into_iter_items l.list-iterator)) l.place;
}
