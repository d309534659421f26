use Rattle.std.proofs.Common.{◌≡◌, take}
use Rattle.opa_listen.specs.Listening.{watched_of}
use Rattle.opa_listen.proofs.ready.watched.Given as goal

abbrev pub invariant-loop-change : goal.invariant-loop-change
invariant-loop-change g l = l.found.items ≡ watched_of ((goal.Listener-dyn g (l.listener.vtable, l.listener.value)).state l.listener.value).watched (take l.change-index l.changes)
