use Rattle.opa_case.proofs.GoingNames.{names_more}
use Rattle.opa_case.proofs.going_names.names_of.Goals as goal

pub loop-inst-preserved : goal.loop-inst-preserved
loop-inst-preserved c = names_more c.loop-inst.index.entries c.add_name.new.index.entries c.args.at.now c.args.instances.now c.loop-inst.inst-index c.loop-inst-item.result c.loop-inst-test.true c.loop-inst-item.is c.loop-inst.invariant c.in_ok-add_name.ensures.ok
