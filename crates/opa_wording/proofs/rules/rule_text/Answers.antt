use Rattle.std.proofs.Common.{◌++◌, ◌∙◌, sym, ap, subst, vec_items}
use Rattle.opa_wording.specs.ReadBack.{ReadsBack}
use Rattle.opa_wording.specs.Rules.{rule_text}
use Rattle.opa_wording.proofs.ReadingBack.{rules_read_back_hold}
use Rattle.opa_wording.proofs.rules.rule_text.Goals as goal

pub returns-clause-back : goal.returns-clause-back
returns-clause-back c =
    let m = c.args.model.now in
    let r = c.args.rule.now in
    subst (ReadsBack m r) (sym (ap vec_items c.into_bytes.ensures.value ∙ c.in_ok-push_rule.ensures ∙ ap (λ t. t ++ rule_text m r) c.new-out.ensures.bytes)) (rules_read_back_hold m r)
