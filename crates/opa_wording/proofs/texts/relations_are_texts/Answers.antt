use Rattle.std.proofs.Common.{◌∷◌, [], arith}
use Rattle.opa_model.specs.declared.things.Relation.{Relation}
use Rattle.opa_wording.proofs.TextsLaws.{one_more, one_text, all_relations}
use Rattle.opa_wording.proofs.texts.relations_are_texts.Goals as goal

pub loop-place-preserved : goal.loop-place-preserved
loop-place-preserved c =
    let r = c.relation-relation.result.now in
    one_more (λ (x : Relation). x.phrase ∷ []) c.args.model.now.relations c.loop-place.place r c.relation-relation.ensures (one_text r.phrase c.is_utf8.ensures) c.loop-place.invariant

pub returns : goal.returns
returns c =
    let count = c.relation_count-place-end.ensures.count in
    let past = c.loop-place-test.false in
    let up_to = c.loop-place.auto.place-end in
    all_relations c.args.model.now c.loop-place.place (grind (arith, count, past, up_to)) c.loop-place.invariant
