use Rattle.std.proofs.Common.{subst}
use Rattle.opa_io.proofs.Places.{take_whole}
use Rattle.opa_io.proofs.Results.{always_on_err}
use Rattle.opa_session.specs.Readers.Indexes.{readers_in}
use Rattle.opa_session.specs.Readers.Renewals.{AddsMore}
use Rattle.opa_session.proofs.readers.Putting.{adds_none, adds_next, adds_some}
use Rattle.opa_session.proofs.readers.put.add_more.Goals as goal

pub loop-renewed-init : goal.loop-renewed-init
loop-renewed-init c = adds_none (λ r. r.more) (readers_in c.args.index.now)

pub loop-renewed-preserved : goal.loop-renewed-preserved
loop-renewed-preserved c =
    adds_next (λ r. r.more) c.args.slots.now c.loop-renewed.renewed-index c.renewed-item.result c.as_slice-more.result.now c.args.index.now c.loop-renewed.index c.add_questions.new.index c.loop-renewed-test.true c.renewed-item.is c.as_slice-more.ensures c.loop-renewed.invariant c.in_ok-add_questions.ensures.adds

pub returns-clause-adds : goal.returns-clause-adds
returns-clause-adds c = subst (λ rs. AddsMore rs (readers_in c.args.index.now) (readers_in c.loop-renewed.index)) (take_whole c.args.slots.now c.loop-renewed.renewed-index c.loop-renewed-test.false) c.loop-renewed.invariant

pub returns-in_err-add_questions-clause-err : goal.returns-in_err-add_questions-clause-err
returns-in_err-add_questions-clause-err c =
    always_on_err c.from_residual.result
    (adds_some c.args.slots.now c.loop-renewed.renewed-index c.renewed-item.result c.as_slice-more.result.now c.args.index.now c.loop-renewed.index c.add_questions.new.index c.loop-renewed-test.true c.renewed-item.is c.as_slice-more.ensures c.loop-renewed.invariant c.in_err-add_questions.ensures.err)
