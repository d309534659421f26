use Rattle.std.proofs.Common.{take}
use Rattle.opa_session.specs.Telling.Among.{AreMarked}
use Rattle.opa_session.proofs.telling.marks.marks_of.Given as goal

abbrev pub invariant-loop-slot : goal.invariant-loop-slot
invariant-loop-slot l = AreMarked (take l.slot-index l.slots) l.marks
