use Rattle.std.proofs.Common.{take}
use Rattle.opa_case.specs.Overlays.{relisted_case}
use Rattle.opa_session.specs.Readers.Indexes.{readers_in}
use Rattle.opa_session.specs.Readers.Waits.{IsLiveReader, WaitsBesides}
use Rattle.opa_session.proofs.readers.listing.mark_told.Given as goal

abbrev pub invariant-loop-question : goal.invariant-loop-question
invariant-loop-question l = WaitsBesides l.base (IsLiveReader (relisted_case l.next) (readers_in l.index) (take l.question-index l.told)) l.initial.tasks l.tasks
