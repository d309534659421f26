use Rattle.std.proofs.Common.{arith, ◌∙◌}
use Rattle.opa_case.proofs.Naming.{without_more}
use Rattle.opa_case.proofs.names.many_without.Goals as goal

pub loop-name-preserved : goal.loop-name-preserved
loop-name-preserved c =
    let x = c.name-item.result in
    without_more c.args.names.now c.args.others.now c.loop-name.name-index x c.loop-name.left c.add_unless.new.left c.has_name.result (omega (arith, c.loop-name-test.true)) c.name-item.is c.in_ok-add_unless.ensures (c.has_name.ensures ∙ c.in_ok-found.ensures x) c.loop-name.invariant
