use Rattle.std.proofs.Common.{subst}
use Rattle.opa_io.proofs.Places.{take_whole}
use Rattle.opa_session.specs.Readers.Indexes.{readers_in}
use Rattle.opa_session.specs.Readers.Renewals.{TakesMore}
use Rattle.opa_session.proofs.readers.Putting.{takes_none, takes_next}
use Rattle.opa_session.proofs.readers.put.take_more.Goals as goal

pub loop-renewed-init : goal.loop-renewed-init
loop-renewed-init c = takes_none (λ r. r.more) (readers_in c.args.index.now)

pub loop-renewed-preserved : goal.loop-renewed-preserved
loop-renewed-preserved c =
    takes_next (λ r. r.more) c.args.slots.now c.loop-renewed.renewed-index c.renewed-item.result c.as_slice-more.result.now c.args.index.now c.loop-renewed.index c.take_questions.new.index c.loop-renewed-test.true c.renewed-item.is c.as_slice-more.ensures c.loop-renewed.invariant c.take_questions.ensures

pub returns : goal.returns
returns c = subst (λ rs. TakesMore rs (readers_in c.args.index.now) (readers_in c.loop-renewed.index)) (take_whole c.args.slots.now c.loop-renewed.renewed-index c.loop-renewed-test.false) c.loop-renewed.invariant
