use Rattle.std.proofs.Common.{subst, ◌∙◌}
use Rattle.serde_json.specs.View.{view}
use Rattle.opa_saved.specs.Saved.{ReadsAs}
use Rattle.opa_saved.proofs.LineFacts.{all_lines, loads_back}
use Rattle.opa_saved.proofs.SavedLaws.{live_listed, saved_has_no_float, saved_is_shallow, text_is}
use Rattle.opa_saved.proofs.saved.saved_text.Goals as goal

pub saved_json-requires-clause-order : goal.saved_json-requires-clause-order
saved_json-requires-clause-order c = c.deref.ensures.value ∙ c.in_ok-order.ensures ∙ live_listed c.args.model.now c.args.case.now c.entity_count-count.ensures.form c.requires

pub text_of-requires-clause-no_float : goal.text_of-requires-clause-no_float
text_of-requires-clause-no_float c = saved_has_no_float c.args.model.now c.args.case.now (view c.in_ok-value.value) c.in_ok-value.ensures.data

pub text_of-requires-clause-shallow : goal.text_of-requires-clause-shallow
text_of-requires-clause-shallow c = saved_is_shallow c.args.model.now c.args.case.now (view c.in_ok-value.value) c.in_ok-value.ensures.data

pub returns-clause-text : goal.returns-clause-text
returns-clause-text c = c.in_ok-text_of.ensures.text ∙ text_is c.args.model.now c.args.case.now (view c.in_ok-value.value) c.in_ok-value.ensures.data

pub returns-clause-loads : goal.returns-clause-loads
returns-clause-loads c =
    let m = c.args.model.now in
    let im = c.entity_count-count.ensures.form in
    loads_back m c.args.case.now _ im (all_lines m c.args.case.now im c.requires c.in_ok-value.ensures.lines) (subst (ReadsAs _) c.in_ok-value.ensures.data c.in_ok-text_of.ensures.back)
