use Rattle.std.proofs.Common.{false}
use Rattle.opa_case.proofs.Indexing.{sets_more}
use Rattle.opa_case.proofs.index.drop_names.Goals as goal

pub loop-name-preserved : goal.loop-name-preserved
loop-name-preserved c =
    sets_more false c.args.index.now.entries c.loop-name.index.entries c.drop_name.new.index.entries c.args.number c.args.names.now c.args.inst.now c.loop-name.name-index c.name-item.result c.loop-name-test.true c.name-item.is c.loop-name.invariant c.drop_name.ensures
