use Rattle.std.proofs.Common.{take}
use Rattle.opa_session.specs.Readers.Waits.{IsOwnSlotAmong, WaitsBesides}
use Rattle.opa_session.proofs.readers.listing.mark_slots_of.Given as goal

abbrev pub invariant-loop-attr : goal.invariant-loop-attr
invariant-loop-attr l = WaitsBesides l.base (IsOwnSlotAmong l.base l.inst (take l.attr-index l.attrs)) l.initial.tasks l.tasks
