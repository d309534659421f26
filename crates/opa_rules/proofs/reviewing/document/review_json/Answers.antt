use Rattle.std.proofs.Common.{◌∙◌, ap, take}
use Rattle.serde_json.specs.View.{view}
use Rattle.opa_rules.proofs.reviewing.JsonLaws.{has_no_float, is_shallow, text_is}
use Rattle.opa_rules.proofs.reviewing.document.review_json.Goals as goal

pub text_of-requires-clause-no_float : goal.text_of-requires-clause-no_float
text_of-requires-clause-no_float c = has_no_float c.args.base.now _ (view c.in_ok-value.value) c.in_ok-value.ensures

pub text_of-requires-clause-shallow : goal.text_of-requires-clause-shallow
text_of-requires-clause-shallow c = is_shallow c.args.base.now _ (view c.in_ok-value.value) c.in_ok-value.ensures

pub returns : goal.returns
returns c = c.in_ok-text_of.ensures.text ∙ text_is c.args.base.now _ (view c.in_ok-value.value) c.in_ok-value.ensures (c.first_ones.ensures ∙ ap (take 100) (c.as_slice.ensures ∙ c.in_ok-all.ensures))
