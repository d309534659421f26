use Rattle.std.proofs.Common.{◌≡◌, take}
use Rattle.opa_mean.specs.Reached.Slots.{pairs_of}
use Rattle.opa_session.proofs.telling.among.as_pairs.Given as goal

abbrev pub invariant-loop-slot : goal.invariant-loop-slot
invariant-loop-slot l = l.all ≡ pairs_of (take l.slot-index l.slots)
