use Rattle.std.proofs.Common.{List, subst}
use Rattle.opa_session.specs.Readers.Indexes.{readers_in}
use Rattle.opa_session.specs.Readers.Renewals.{AddsMore, AddsSomeMore, TakesMore}
use Rattle.opa_session.specs.declared.readers.renewal.Renewed.{Renewed}
use Rattle.opa_session.proofs.readers.Putting.{some_back}
use Rattle.opa_session.proofs.readers.index.Index.add.Goals as goal

pub returns-in-Ok-clause-added : goal.returns-in-Ok-clause-added
returns-in-Ok-clause-added c = record {
  apart = c.requires.apart;
  all = subst (λ (rs : List Renewed). AddsMore rs (readers_in c.args.self.now) (readers_in c.add_more.new.index)) c.as_slice.ensures c.in-Ok.ensures.adds;
}

pub returns-in-Err-clause-err : goal.returns-in-Err-clause-err
returns-in-Err-clause-err c =
    some_back c.args.renewal.now (readers_in c.args.self.now) (readers_in c.add_more.new.index) (readers_in c.take_more.new.index) c.requires.apart
    (subst (λ (rs : List Renewed). AddsSomeMore rs (readers_in c.args.self.now) (readers_in c.add_more.new.index)) c.as_slice.ensures c.in-Err.ensures.err)
    (subst (λ (rs : List Renewed). TakesMore rs (readers_in c.add_more.new.index) (readers_in c.take_more.new.index)) c.as_slice-in-Err.ensures c.take_more.ensures)
