use Rattle.std.proofs.Common.{List, subst}
use Rattle.opa_session.specs.Readers.Indexes.{readers_in}
use Rattle.opa_session.specs.Readers.Renewals.{TakesMore}
use Rattle.opa_session.specs.declared.readers.renewal.Renewed.{Renewed}
use Rattle.opa_session.proofs.readers.Putting.{all_back}
use Rattle.opa_session.proofs.readers.index.Index.take_back.Goals as goal

pub returns : goal.returns
returns c = all_back c.args.renewal.now (readers_in c.args.self.now) (readers_in c.take_more.new.index) (subst (λ (rs : List Renewed). TakesMore rs (readers_in c.args.self.now) (readers_in c.take_more.new.index)) c.as_slice.ensures c.take_more.ensures)
