use Rattle.std.proofs.Common.{take}
use Rattle.opa_session.specs.Readers.Indexes.{readers_in}
use Rattle.opa_session.specs.Readers.Renewals.{TakesMore}
use Rattle.opa_session.proofs.readers.put.take_more.Given as goal

abbrev pub invariant-loop-renewed : goal.invariant-loop-renewed
invariant-loop-renewed l = TakesMore (take l.renewed-index l.slots) (readers_in l.fn.index) (readers_in l.index)
