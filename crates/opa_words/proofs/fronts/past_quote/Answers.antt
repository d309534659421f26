use Rattle.std.proofs.Common.{◌∙◌, ap, sym, true, false}
use Rattle.std.specs.List.{list_any}
use Rattle.opa_words.specs.Characters.{is_control}
use Rattle.opa_words.proofs.FrontLaws.{no_quote_ahead, quote_ahead, later_shorter}
use Rattle.opa_words.proofs.fronts.past_quote.Goals as goal

pub returns-in-None-clause-rest : goal.returns-in-None-clause-rest
returns-in-None-clause-rest c = no_quote_ahead c.args.text.now c.in-None.ensures

pub returns-then-has_control-clause-rest : goal.returns-then-has_control-clause-rest
returns-then-has_control-clause-rest c = quote_ahead c.args.text.now c.in-Some.front.now c.in-Some.later.now true c.in-Some.ensures (sym c.if-has_control.true ∙ c.has_control.ensures ∙ ap (list_any is_control) c.as_bytes.ensures.value)

pub returns-else-has_control-clause-rest : goal.returns-else-has_control-clause-rest
returns-else-has_control-clause-rest c = quote_ahead c.args.text.now c.in-Some.front.now c.in-Some.later.now false c.in-Some.ensures (sym c.if-has_control.false ∙ c.has_control.ensures ∙ ap (list_any is_control) c.as_bytes.ensures.value)

pub returns-else-has_control-clause-shorter : goal.returns-else-has_control-clause-shorter
returns-else-has_control-clause-shorter c = later_shorter c.args.text.now c.in-Some.front.now c.in-Some.later.now c.in-Some.ensures
