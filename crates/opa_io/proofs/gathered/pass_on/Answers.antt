use Rattle.std.proofs.Common.{arith}
use Rattle.opa_io.proofs.Gathers.{passed_more, passed_within}
use Rattle.opa_io.proofs.gathered.pass_on.Goals as goal

pub loop-passed-preserved : goal.loop-passed-preserved
loop-passed-preserved g c = record {
  bytes = passed_more _ _ _ c.loop-passed.passed c.in_ok-count.count c.args.bytes.now c.loop-passed.invariant.bytes c.in_ok-count.ensures.bytes.2;
  within = passed_within c.loop-passed.passed c.in_ok-count.count c.args.bytes.now c.loop-passed.invariant.within c.in_ok-count.ensures.bytes.0;
  later = omega arith;
}
