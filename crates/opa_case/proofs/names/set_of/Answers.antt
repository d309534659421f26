use Rattle.std.proofs.Common.{arith}
use Rattle.opa_case.specs.Homes.{has_name}
use Rattle.opa_case.proofs.Naming.{found_more}
use Rattle.opa_case.proofs.names.set_of.Goals as goal

pub loop-name-preserved : goal.loop-name-preserved
loop-name-preserved c q =
    found_more c.args.names.now c.loop-name.name-index c.name-item.result q (has_name c.add_name.new.later q) (has_name c.loop-name.found q) (omega (arith, c.loop-name-test.true)) c.name-item.is (c.in_ok-add_name.ensures q) (c.loop-name.invariant q)
