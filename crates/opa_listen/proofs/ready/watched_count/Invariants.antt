use Rattle.std.proofs.Common.{◌≡◌, ◌≤◌, length, take}
use Rattle.opa_listen.specs.Listening.{watched_of}
use Rattle.opa_listen.proofs.ready.watched_count.Given as goal

abbrev pub invariant-loop-change : goal.invariant-loop-change
invariant-loop-change g l = record {
  count : l.count ≡ length (watched_of ((goal.Listener-dyn g (l.listener.vtable, l.listener.value)).state l.listener.value).watched (take l.change-index l.changes));
  small : l.count ≤ l.change-index;
}
