use Rattle.std.proofs.Common.{arith, take, ◌++◌}
use Rattle.opa_io.proofs.Appended.{Appends-append, front-more_slice}
use Rattle.opa_io.proofs.outside.write_all_of.Goals as goal

pub loop-rest-preserved : goal.loop-rest-preserved
loop-rest-preserved g c =
    let done = c.loop-rest.invariant.done in
    record {
      done = (done.0 ++ take c.in_ok-count.count c.loop-rest.rest.now, front-more_slice done.0 _ _ _ done.1, Appends-append _ _ _ _ _ done.2 c.in_ok-count.ensures.bytes.2);
      later = omega arith;
    }
