use Rattle.opa_case.proofs.Touching.{sources_more, sources_end}
use Rattle.opa_case.proofs.lists_naming.add_sources.Goals as goal

pub loop-inst-preserved : goal.loop-inst-preserved
loop-inst-preserved c =
    sources_more c.args.keys.now c.loop-inst.keys c.add_key.new.keys c.args.number c.loop-inst.inst-iterator c.args.sources.now.entries c.in-Some.inst.now c.in-Some.field-0-1.now c.next.new.self
    c.in-Some.ensures.steps c.loop-inst.invariant c.in_ok-add_key.ensures

pub returns : goal.returns
returns c = sources_end c.args.keys.now c.loop-inst.keys c.args.number c.loop-inst.inst-iterator c.args.sources.now.entries c.in-None.ensures.steps.0 c.loop-inst.invariant
