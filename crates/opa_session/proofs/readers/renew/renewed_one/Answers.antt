use Rattle.opa_case.specs.Overlays.{relisted_case}
use Rattle.opa_mean.specs.Reached.Settling.{shift}
use Rattle.opa_session.proofs.readers.AllRenewed.{one_renewed}
use Rattle.opa_session.proofs.readers.renew.renewed_one.Goals as goal

pub returns-clause-renewed : goal.returns-clause-renewed
returns-clause-renewed c =
    one_renewed (shift c.args.base.now c.args.held.now (relisted_case c.args.next.now)) (record { slot = c.args.slot; more = c.in_ok-more.more; lost = c.in_ok-lost.lost }) c.in_ok-before.before c.in_ok-then.then
    c.as_slice-2.result.now c.as_slice-3.result.now c.as_slice.result.now c.as_slice-4.result.now c.in_ok-before.ensures c.in_ok-then.ensures c.as_slice.ensures c.as_slice-2.ensures c.in_ok-more.ensures c.as_slice-3.ensures c.as_slice-4.ensures c.in_ok-lost.ensures
