use Rattle.std.proofs.Common.{subst}
use Rattle.opa_io.proofs.Places.{take_whole}
use Rattle.opa_session.specs.Readers.Indexes.{readers_in}
use Rattle.opa_session.specs.Readers.Renewals.{TakesLost}
use Rattle.opa_session.proofs.readers.Putting.{takes_none, takes_next}
use Rattle.opa_session.proofs.readers.put.take_lost.Goals as goal

pub loop-renewed-init : goal.loop-renewed-init
loop-renewed-init c = takes_none (λ r. r.lost) (readers_in c.args.index.now)

pub loop-renewed-preserved : goal.loop-renewed-preserved
loop-renewed-preserved c =
    takes_next (λ r. r.lost) c.args.slots.now c.loop-renewed.renewed-index c.renewed-item.result c.as_slice-lost.result.now c.args.index.now c.loop-renewed.index c.take_questions.new.index c.loop-renewed-test.true c.renewed-item.is c.as_slice-lost.ensures c.loop-renewed.invariant c.take_questions.ensures

pub returns : goal.returns
returns c = subst (λ rs. TakesLost rs (readers_in c.args.index.now) (readers_in c.loop-renewed.index)) (take_whole c.args.slots.now c.loop-renewed.renewed-index c.loop-renewed-test.false) c.loop-renewed.invariant
