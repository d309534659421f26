use Rattle.opa_rules.specs.Reviewing.Alike.{lists_at}
use Rattle.opa_rules.proofs.reviewing.AlikeLaws.{none_yet, one_more}
use Rattle.opa_rules.proofs.reviewing.alike.push_lists_with.Goals as goal

pub loop-earlier-init : goal.loop-earlier-init
loop-earlier-init c = none_yet c.args.findings.now (lists_at c.args.model.now c.args.place)

pub loop-earlier-preserved : goal.loop-earlier-preserved
loop-earlier-preserved c = one_more c.args.findings.now _ _ (lists_at c.args.model.now c.args.place) c.loop-earlier.earlier c.loop-earlier.invariant c.in_ok-push_list_pair.ensures
