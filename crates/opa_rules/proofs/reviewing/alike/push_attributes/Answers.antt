use Rattle.opa_rules.specs.Reviewing.Alike.{attributes_with}
use Rattle.opa_rules.proofs.reviewing.AlikeLaws.{none_yet, one_more}
use Rattle.opa_rules.proofs.reviewing.alike.push_attributes.Goals as goal

pub loop-place-init : goal.loop-place-init
loop-place-init c = none_yet c.args.findings.now (attributes_with c.args.model.now)

pub loop-place-preserved : goal.loop-place-preserved
loop-place-preserved c = one_more c.args.findings.now _ _ (attributes_with c.args.model.now) c.loop-place.place c.loop-place.invariant c.in_ok-push_attributes_with.ensures
