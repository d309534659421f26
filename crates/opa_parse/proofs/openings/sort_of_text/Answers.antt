use Rattle.std.proofs.Common.{Some, None, refl, sym, ◌∙◌}
use Rattle.opa_parse.proofs.FrontLaws.{uncut_first, empty_first, some_first}
use Rattle.opa_parse.proofs.openings.sort_of_text.Goals as goal

pub returns-in-None : goal.returns-in-None
returns-in-None c = (None, uncut_first c.args.text.now c.in_ok-whole.whole.now c.in_ok-whole.ensures (rw c.in-None.is at c.in_ok-cut.ensures.cut), refl)

pub returns-in-None-front : goal.returns-in-None-front
returns-in-None-front c = (None, empty_first c.args.text.now c.in_ok-whole.whole.now c.in-Some.tokens.items (sym c.as_slice.ensures.value ∙ c.in-None-front.ensures) c.in_ok-whole.ensures (rw c.in-Some.is at c.in_ok-cut.ensures.cut), refl)

pub returns : goal.returns
returns c = (
  Some c.token_text.result.now,
  some_first c.args.text.now c.in_ok-whole.whole.now c.in-Some.tokens.items c.in-Some-front.first.now c.in-Some-front.field-0-1.now c.token_text.result.now (sym c.as_slice.ensures.value ∙ c.in-Some-front.ensures) c.in_ok-whole.ensures (rw c.in-Some.is at c.in_ok-cut.ensures.cut) (sym c.token_text.ensures),
  c.sort_of_word.ensures,
)
