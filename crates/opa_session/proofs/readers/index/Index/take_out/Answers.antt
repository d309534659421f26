use Rattle.std.proofs.Common.{List, subst}
use Rattle.opa_session.specs.Readers.Indexes.{readers_in}
use Rattle.opa_session.specs.Readers.Renewals.{TakesLost}
use Rattle.opa_session.specs.declared.readers.renewal.Renewed.{Renewed}
use Rattle.opa_session.proofs.readers.Putting.{lost_out}
use Rattle.opa_session.proofs.readers.index.Index.take_out.Goals as goal

pub returns : goal.returns
returns c = lost_out c.args.renewal.now (readers_in c.args.self.now) (readers_in c.take_lost.new.index) (subst (λ (rs : List Renewed). TakesLost rs (readers_in c.args.self.now) (readers_in c.take_lost.new.index)) c.as_slice.ensures c.take_lost.ensures)
