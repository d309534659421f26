use Rattle.opa_rules.specs.Reviewing.Alike.{attributes_at}
use Rattle.opa_rules.proofs.reviewing.AlikeLaws.{none_yet, one_more}
use Rattle.opa_rules.proofs.reviewing.alike.push_attributes_with.Goals as goal

pub loop-earlier-init : goal.loop-earlier-init
loop-earlier-init c = none_yet c.args.findings.now (attributes_at c.args.model.now c.args.place)

pub loop-earlier-preserved : goal.loop-earlier-preserved
loop-earlier-preserved c = one_more c.args.findings.now _ _ (attributes_at c.args.model.now c.args.place) c.loop-earlier.earlier c.loop-earlier.invariant c.in_ok-push_attribute_pair.ensures
