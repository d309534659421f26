use Rattle.opa_rules.specs.Describing.Parts.{entity_data}
use Rattle.opa_rules.proofs.describing.UptoLaws.{none_yet, one_more}
use Rattle.opa_rules.proofs.describing.describing.entities.Goals as goal

pub loop-n-init : goal.loop-n-init
loop-n-init c = none_yet (entity_data c.args.model.now) _ c.new-items.ensures.items

pub loop-n-preserved : goal.loop-n-preserved
loop-n-preserved c = one_more (entity_data c.args.model.now) c.loop-n.n _ _ _ c.in_ok-push.ensures.items c.loop-n.invariant c.in_ok-entity_json.ensures
