use Rattle.std.proofs.Common.{take}
use Rattle.opa_session.specs.Readers.Indexes.{readers_in}
use Rattle.opa_session.specs.Readers.Renewals.{TakesLost}
use Rattle.opa_session.proofs.readers.put.take_lost.Given as goal

abbrev pub invariant-loop-renewed : goal.invariant-loop-renewed
invariant-loop-renewed l = TakesLost (take l.renewed-index l.slots) (readers_in l.fn.index) (readers_in l.index)
