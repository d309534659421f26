use Rattle.std.proofs.Common.{take, ap, ◌∙◌}
use Rattle.opa_model.specs.declared.things.Attribute.{Attribute}
use Rattle.opa_model.specs.Lookups.{attribute_phrases}
use Rattle.opa_saved.specs.Digests.{digest_on, phrase_line}
use Rattle.opa_saved.proofs.DigestLaws.{digest_next, phrases_next}
use Rattle.opa_saved.proofs.digest.digest_attributes.Goals as goal

pub loop-n-preserved : goal.loop-n-preserved
loop-n-preserved c = record {
  same =
      digest_next 0 (take c.loop-n.n (attribute_phrases c.args.model.now)) _ c.attribute.result.now.phrase c.loop-n.digest c.digest_phrase-digest.result
      (phrases_next (λ (x : Attribute). x.phrase) c.args.model.now.attributes c.loop-n.n c.attribute.result.now c.attribute.ensures) c.loop-n.invariant.same
      (c.digest_phrase-digest.ensures.value ∙ ap (λ p. digest_on c.loop-n.digest (phrase_line p)) c.as_str.ensures);
  bound = c.digest_phrase-digest.ensures.bound;
}
