-- The phrases of a model that can be read are written as tokens.
use Rattle.std.proofs.Common.{◌<◌, ℕ, zero, suc, List, [], ◌∷◌, length, map, All, slice_get, arith}
use Rattle.std.specs.Str.{IsUtf8}
use Rattle.std.proofs.lemmas.List.Elements.{All-head, All-tail}
use Rattle.opa_model.specs.declared.things.Attribute.{Attribute}
use Rattle.opa_model.specs.declared.things.Relation.{Relation}
use Rattle.opa_model.specs.Lookups.{attribute_at, relation_at}
use Rattle.opa_verbs.specs.Phrasing.{IsPhrase}
use Rattle.opa_wording.specs.Wordings.{phrase_of_attribute, phrase_of_relation}
use Rattle.opa_wording.specs.Laws.{ReadableIsWritten}
use Rattle.opa_wording.proofs.PhrasePieces.{phrase_is_written}

pub attribute_held : (P : List ℕ → Type 0) (xs : List Attribute) (i : ℕ) → i < length xs → All P (map (λ a. a.phrase) xs) → P (phrase_of_attribute (slice_get xs i))
attribute_held P [] i lt h = absurd (omega (arith, lt))
attribute_held P (x ∷ xs) zero lt h = All-head P x.phrase (map (λ (a : Attribute). a.phrase) xs) h
attribute_held P (x ∷ xs) (suc i) lt h = attribute_held P xs i (omega (arith, lt)) (All-tail P x.phrase (map (λ (a : Attribute). a.phrase) xs) h)

pub relation_held : (P : List ℕ → Type 0) (xs : List Relation) (i : ℕ) → i < length xs → All P (map (λ r. r.phrase) xs) → P (phrase_of_relation (slice_get xs i))
relation_held P [] i lt h = absurd (omega (arith, lt))
relation_held P (x ∷ xs) zero lt h = All-head P x.phrase (map (λ (r : Relation). r.phrase) xs) h
relation_held P (x ∷ xs) (suc i) lt h = relation_held P xs i (omega (arith, lt)) (All-tail P x.phrase (map (λ (r : Relation). r.phrase) xs) h)

pub readable_is_written_holds : ReadableIsWritten
readable_is_written_holds m inferences h texts = record {
  attributes = λ a has. phrase_is_written (phrase_of_attribute (attribute_at m a)) (attribute_held IsUtf8 m.attributes a.0 has texts.attributes) (attribute_held IsPhrase m.attributes a.0 has h.attributes);
  relations = λ r has. phrase_is_written (phrase_of_relation (relation_at m r)) (relation_held IsUtf8 m.relations r.0 has texts.relations) (relation_held IsPhrase m.relations r.0 has h.relations);
}
