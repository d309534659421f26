use Rattle.std.proofs.Common.{[], ◌∷◌, drop, flat_map, All}
use Rattle.std.specs.Str.{IsUtf8}
use Rattle.opa_model.specs.declared.things.Attribute.{Attribute}
use Rattle.opa_verbs.specs.Phrasing.{denials}
use Rattle.opa_wording.proofs.texts.attributes_are_texts.Given as goal

abbrev pub invariant-loop-place : goal.invariant-loop-place
invariant-loop-place l = record {
  phrases : All IsUtf8 (flat_map (λ (a : Attribute). a.phrase ∷ []) (drop l.place l.model.attributes)) → All IsUtf8 (flat_map (λ (a : Attribute). a.phrase ∷ []) l.model.attributes);
  denials : All IsUtf8 (flat_map (denials l.model) (drop l.place l.model.attributes)) → All IsUtf8 (flat_map (denials l.model) l.model.attributes);
}
