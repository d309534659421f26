use Rattle.std.proofs.Common.{take}
use Rattle.opa_session.specs.Readers.Waits.{IsSlotOfOne, WaitsBesides}
use Rattle.opa_session.proofs.readers.listing.mark_came.Given as goal

abbrev pub invariant-loop-inst : goal.invariant-loop-inst
invariant-loop-inst l = WaitsBesides l.base (IsSlotOfOne l.base (take l.inst-index l.came)) l.initial.tasks l.tasks
