use Rattle.std.proofs.Common.{arith}
use Rattle.opa_case.proofs.Naming.{shared_more}
use Rattle.opa_case.proofs.names.shared.Goals as goal

pub loop-at-preserved : goal.loop-at-preserved
loop-at-preserved c = record {
  same = shared_more c.args.names.now c.args.others.now c.loop-at.at c.index-names-at.result (omega (arith, c.loop-at-test.true)) c.index-names-at.is (c.stands_at.ensures c.if-not-stands_at.false) c.loop-at.invariant.same;
  within = omega (arith, c.loop-at-test.true);
}
