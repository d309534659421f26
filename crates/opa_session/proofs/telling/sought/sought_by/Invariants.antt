use Rattle.std.proofs.Common.{take}
use Rattle.opa_session.specs.Telling.Wanted.{has_wanted, AreWanted}
use Rattle.opa_session.proofs.telling.sought.sought_by.Given as goal

abbrev pub invariant-loop-slot : goal.invariant-loop-slot
invariant-loop-slot g l = AreWanted (g.K.Lined.over l.held).live (take l.slot-index l.slots) (has_wanted l.sought.wanted)
