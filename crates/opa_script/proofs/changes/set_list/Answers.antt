use Rattle.std.proofs.Common.{ℕ, List}
use Rattle.opa_text.specs.Spelled.{SpellsNames}
use Rattle.opa_words.specs.Pieces.{seen}
use Rattle.opa_text.proofs.ChangeLaws.{match_none}
use Rattle.opa_script.proofs.Found.{given_found, given_missing, relation_found, relation_missing}
use Rattle.opa_script.proofs.Exits.{list_shape, list_name, list_unread}
use Rattle.opa_script.proofs.changes.set_list.Goals as goal

pub returns-in_default-clause-fault : goal.returns-in_default-clause-fault
returns-in_default-clause-fault c = list_shape c.args.model.now (seen c.args.rest) (given_missing c.in_ok-point.field-0 (seen c.args.rest) c.in_default.is c.in_ok-point.ensures.given)

pub returns-in_default-2-clause-fault : goal.returns-in_default-2-clause-fault
returns-in_default-2-clause-fault c = list_name c.args.model.now (seen c.args.rest) (seen c.in-Some.after) c.in-Some.point (given_found c.in_ok-point.field-0 c.in-Some.point c.in-Some.after (seen c.args.rest) c.in-Some.is c.in_ok-point.ensures.given) (relation_missing c.in_ok-rel.field-0 c.args.model.now c.in-Some.point c.in_default-2.is c.in_ok-rel.ensures)

pub returns-in-None-clause-fault : goal.returns-in-None-clause-fault
returns-in-None-clause-fault c =
    list_unread c.args.model.now (seen c.args.rest) (seen c.in-Some.after) c.in-Some.point c.in-Some-2.rel c.in-Some-2.inst (given_found c.in_ok-point.field-0 c.in-Some.point c.in-Some.after (seen c.args.rest) c.in-Some.is c.in_ok-point.ensures.given)
    (relation_found c.in_ok-rel.field-0 c.args.model.now c.in-Some.point c.in-Some-2.rel c.in-Some-2.inst c.in-Some-2.is c.in_ok-rel.ensures)
    (match_none c.in_ok-names_of.field-0 ((l : List (List ℕ)) → SpellsNames l (seen c.in-Some.after) → ⊥) (λ l. SpellsNames l (seen c.in-Some.after)) c.in-None.is c.in_ok-names_of.ensures)
