use Rattle.std.proofs.Common.{take}
use Rattle.opa_session.specs.Readers.Indexes.{readers_in, AreReadersAmong}
use Rattle.opa_session.proofs.readers.build.among.Given as goal

abbrev pub invariant-loop-attr : goal.invariant-loop-attr
invariant-loop-attr l = AreReadersAmong l.base l.case (take l.attr-index l.slots) (readers_in l.index)
