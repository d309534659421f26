use Rattle.std.proofs.Common.{subst, ◌∙◌}
use Rattle.serde_json.specs.View.{view}
use Rattle.opa_saved.specs.Saved.{ReadsAs}
use Rattle.opa_rules.proofs.describing.PlainLaws.{has_no_float, is_shallow, text_is}
use Rattle.opa_rules.proofs.describing.describing.description.Goals as goal

pub text_of-requires-clause-no_float : goal.text_of-requires-clause-no_float
text_of-requires-clause-no_float c = has_no_float c.args.base.now (view c.in_ok-value.value) c.in_ok-value.ensures

pub text_of-requires-clause-shallow : goal.text_of-requires-clause-shallow
text_of-requires-clause-shallow c = is_shallow c.args.base.now (view c.in_ok-value.value) c.in_ok-value.ensures

pub returns-clause-text : goal.returns-clause-text
returns-clause-text c = c.in_ok-text_of.ensures.text ∙ text_is c.args.base.now (view c.in_ok-value.value) c.in_ok-value.ensures

pub returns-clause-back : goal.returns-clause-back
returns-clause-back c = subst (ReadsAs _) c.in_ok-value.ensures c.in_ok-text_of.ensures.back
