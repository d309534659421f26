use Rattle.std.proofs.Common.{◌≡◌, ◌∙◌, ap, sym, subst, take}
use Rattle.opa_rulebase.specs.Checking.Found.{AreUses}
use Rattle.opa_tree.proofs.Setting.{one_more}
use Rattle.opa_rulebase.proofs.checking.uses.uses_of.Goals as goal

pub loop-rule-preserved : goal.loop-rule-preserved
loop-rule-preserved c =
    let rules = c.args.rules.now in let i = c.loop-rule.rule-index in
    subst (λ seen. AreUses c.args.count seen c.add_rule.new.uses.items) (sym (one_more rules i c.rule-item.result c.loop-rule-test.true c.rule-item.is)) (c.in_ok-add_rule.ensures c.args.count (take i rules) c.loop-rule.invariant)
