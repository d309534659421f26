use Rattle.std.proofs.Common.{ℕ, List}
use Rattle.opa_value.specs.declared.value.Value.{Value}
use Rattle.opa_text.specs.Spelled.{SpellsLine}
use Rattle.opa_words.specs.Pieces.{seen}
use Rattle.opa_text.proofs.ChangeLaws.{match_none}
use Rattle.opa_script.proofs.Found.{given_found, given_missing, attribute_found, attribute_missing}
use Rattle.opa_script.proofs.Exits.{answer_shape, answer_name, answer_unread}
use Rattle.opa_script.proofs.changes.answer.Goals as goal

pub returns-in_default-clause-fault : goal.returns-in_default-clause-fault
returns-in_default-clause-fault c = answer_shape c.args.model.now (seen c.args.rest) (given_missing c.in_ok-point.field-0 (seen c.args.rest) c.in_default.is c.in_ok-point.ensures.given)

pub returns-in_default-2-clause-fault : goal.returns-in_default-2-clause-fault
returns-in_default-2-clause-fault c = answer_name c.args.model.now (seen c.args.rest) (seen c.in-Some.after) c.in-Some.point (given_found c.in_ok-point.field-0 c.in-Some.point c.in-Some.after (seen c.args.rest) c.in-Some.is c.in_ok-point.ensures.given) (attribute_missing c.in_ok-attr.field-0 c.args.model.now c.in-Some.point c.in_default-2.is c.in_ok-attr.ensures)

pub returns-in-None-clause-fault : goal.returns-in-None-clause-fault
returns-in-None-clause-fault c =
    answer_unread c.args.model.now (seen c.args.rest) (seen c.in-Some.after) c.in-Some.point c.in-Some-2.attr c.in-Some-2.inst (given_found c.in_ok-point.field-0 c.in-Some.point c.in-Some.after (seen c.args.rest) c.in-Some.is c.in_ok-point.ensures.given)
    (attribute_found c.in_ok-attr.field-0 c.args.model.now c.in-Some.point c.in-Some-2.attr c.in-Some-2.inst c.in-Some-2.is c.in_ok-attr.ensures)
    (match_none c.in_ok-line_of.field-0 ((l : List (ℕ × Value)) → SpellsLine l (seen c.in-Some.after) → ⊥) (λ l. SpellsLine l (seen c.in-Some.after)) c.in-None.is c.in_ok-line_of.ensures.line)
