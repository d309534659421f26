use Rattle.std.proofs.Common.{◌<◌, subst, All}
use Rattle.std.proofs.lemmas.List.Elements.{All-head, All-tail}
use Rattle.opa_tree.specs.declared.rules.Rule.{Rule}
use Rattle.opa_rulebase.proofs.RuledLaws.{one_more}
use Rattle.opa_rulebase.proofs.ruled.ruled_of.Goals as goal

pub loop-rule-preserved : goal.loop-rule-preserved
loop-rule-preserved c =
    let within = subst (All (λ (r : Rule). r.attr.0 < c.args.count)) c.in-Some.ensures c.loop-rule.invariant.within in
    record {
      so_far = one_more c.args.count c.args.rules.now c.loop-rule.rest.now c.in-Some.later.now c.in-Some.rule.now c.loop-rule.ruled.items c.set_ruled.new.ruled.items c.in-Some.ensures (All-head (λ (r : Rule). r.attr.0 < c.args.count) c.in-Some.rule.now c.in-Some.later.now within) c.set_ruled.ensures
          c.loop-rule.invariant.so_far;
      within = All-tail (λ (r : Rule). r.attr.0 < c.args.count) c.in-Some.rule.now c.in-Some.later.now within;
    }
