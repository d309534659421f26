use Rattle.std.proofs.Common.{◌∷◌, [], arith}
use Rattle.opa_model.specs.declared.things.Attribute.{Attribute}
use Rattle.opa_verbs.specs.Phrasing.{denials}
use Rattle.opa_wording.proofs.TextsLaws.{one_more, one_text, all_attributes}
use Rattle.opa_wording.proofs.texts.attributes_are_texts.Goals as goal

pub loop-place-preserved : goal.loop-place-preserved
loop-place-preserved c =
    let m = c.args.model.now in
    let a = c.attribute-attribute.result.now in
    record {
      phrases = one_more (λ (x : Attribute). x.phrase ∷ []) m.attributes c.loop-place.place a c.attribute-attribute.ensures (one_text a.phrase c.is_utf8.ensures) c.loop-place.invariant.phrases;
      denials = one_more (denials m) m.attributes c.loop-place.place a c.attribute-attribute.ensures c.denials_are_texts.ensures c.loop-place.invariant.denials;
    }

pub returns-clause-phrases : goal.returns-clause-phrases
returns-clause-phrases c =
    let count = c.attribute_count-place-end.ensures.count in
    let past = c.loop-place-test.false in
    let up_to = c.loop-place.auto.place-end in
    all_attributes c.args.model.now c.loop-place.place (grind (arith, count, past, up_to)) c.loop-place.invariant.phrases
