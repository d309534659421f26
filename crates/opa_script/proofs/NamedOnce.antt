-- A phrase names at most one attribute, or at most one relation, and not both.
use Rattle.std.proofs.Common.{◌≡◌, ◌≢◌, ◌<◌, ◌+◌, ℕ, List, ◌++◌, length, refl, sym, ap, subst, ◌∙◌, arith}
use Rattle.std.specs.Prelude.{Option, Some, None, IfSome, slice_get, slice_index_or, position}
use Rattle.std.specs.Option.{option_map}
use Rattle.std.specs.List.{AllPairs}
use Rattle.std.specs.Str.{bytes_eq}
use Rattle.std.proofs.lemmas.List.{get_or_append_left, get_or-append-add, length-append}
use Rattle.std.proofs.lemmas.Option.{slice_get_within, get_or_from_slice_get, same_Some}
use Rattle.opa_model.specs.declared.ids.AttrId.{AttrId}
use Rattle.opa_model.specs.declared.ids.EntityId.{EntityId}
use Rattle.opa_model.specs.declared.ids.RelId.{RelId}
use Rattle.opa_model.specs.declared.things.Attribute.{Attribute}
use Rattle.opa_model.specs.declared.things.Relation.{Relation}
use Rattle.opa_model.specs.declared.lists.Lists.{Lists}
use Rattle.opa_model.specs.Lookups.{attribute_at, relation_at, attribute_named, relation_named, attribute_phrases, relation_phrases}
use Rattle.opa_model.specs.Models.{IsModel}
use Rattle.opa_model.proofs.PhrasesLaws.{position-found}
use Rattle.opa_cells.specs.declared.instance.InstanceId.{InstanceId}
use Rattle.opa_text.specs.declared.pointed.Point.{Point}
use Rattle.opa_script.specs.Commands.{instance_of, HasEntityOf, HasSourceOf, NamesAttribute, NamesRelation}

-- ---- at most one

entity_same : (m : Lists) (a b : AttrId) (e f : EntityId) → a ≡ b → HasEntityOf m a e → HasEntityOf m b f → e ≡ f
entity_same m a b e f s h k =
    let x : h.0 ≡ k.0 = same_Some h.0 k.0 (sym h.1 ∙ ap (attribute_at m) s ∙ k.1) in
    h.2 ∙ ap (λ (y : Attribute). y.entity) x ∙ sym k.2

source_same : (m : Lists) (a b : RelId) (e f : EntityId) → a ≡ b → HasSourceOf m a e → HasSourceOf m b f → e ≡ f
source_same m a b e f s h k =
    let x : h.0 ≡ k.0 = same_Some h.0 k.0 (sym h.1 ∙ ap (relation_at m) s ∙ k.1) in
    h.2 ∙ ap (λ (y : Relation). y.source) x ∙ sym k.2

pub one_attribute : (m : Lists) (p q : Point) (a b : AttrId) (i j : InstanceId) → p ≡ q → NamesAttribute m p a i → NamesAttribute m q b j → (a ≡ b) × (i ≡ j)
one_attribute m p q a b i j e h k =
    let s : a ≡ b = same_Some a b (sym h.0 ∙ ap (λ (x : Point). attribute_named m x.phrase) e ∙ k.0) in
    (s, h.1.2 ∙ ap (λ x. instance_of x p.name) (entity_same m a b h.1.0 k.1.0 s h.1.1 k.1.1) ∙ ap (λ (x : Point). instance_of k.1.0 x.name) e ∙ sym k.1.2)

pub one_relation : (m : Lists) (p q : Point) (a b : RelId) (i j : InstanceId) → p ≡ q → NamesRelation m p a i → NamesRelation m q b j → (a ≡ b) × (i ≡ j)
one_relation m p q a b i j e h k =
    let s : a ≡ b = same_Some a b (sym h.0 ∙ ap (λ (x : Point). relation_named m x.phrase) e ∙ k.0) in
    (s, h.1.2 ∙ ap (λ x. instance_of x p.name) (source_same m a b h.1.0 k.1.0 s h.1.1 k.1.1) ∙ ap (λ (x : Point). instance_of k.1.0 x.name) e ∙ sym k.1.2)

-- ---- not both

abbrev attribute_id : ℕ → AttrId
attribute_id n = record { 0 = n }

abbrev relation_id : ℕ → RelId
relation_id n = record { 0 = n }

found_at : (ps : List (List ℕ)) (t : List ℕ) (o : Option ℕ) → o ≡ position (bytes_eq t) ps → IfSome o (λ i. slice_get ps i ≡ Some t)
found_at ps t o e = position-found t ps o e

attribute_found : (m : Lists) (t : List ℕ) (a : AttrId) → attribute_named m t ≡ Some a → slice_get (attribute_phrases m) a.0 ≡ Some t
attribute_found m t a e = go (position (bytes_eq t) (attribute_phrases m)) refl e
  where
    go : (o : Option ℕ) → o ≡ position (bytes_eq t) (attribute_phrases m) → option_map attribute_id o ≡ Some a → slice_get (attribute_phrases m) a.0 ≡ Some t
    go None f g = absurd (cc g)
    go (Some n) f g = subst (λ (x : AttrId). slice_get (attribute_phrases m) x.0 ≡ Some t) (same_Some _ a g) (found_at (attribute_phrases m) t (Some n) f)

relation_found : (m : Lists) (t : List ℕ) (a : RelId) → relation_named m t ≡ Some a → slice_get (relation_phrases m) a.0 ≡ Some t
relation_found m t a e = go (position (bytes_eq t) (relation_phrases m)) refl e
  where
    go : (o : Option ℕ) → o ≡ position (bytes_eq t) (relation_phrases m) → option_map relation_id o ≡ Some a → slice_get (relation_phrases m) a.0 ≡ Some t
    go None f g = absurd (cc g)
    go (Some n) f g = subst (λ (x : RelId). slice_get (relation_phrases m) x.0 ≡ Some t) (same_Some _ a g) (found_at (relation_phrases m) t (Some n) f)

apart : (xs ys : List (List ℕ)) (i j : ℕ) (t : List ℕ) → AllPairs (λ p q. p ≢ q) (xs ++ ys) → slice_get xs i ≡ Some t → slice_get ys j ≡ Some t → ⊥
apart xs ys i j t all h k =
    let inx : i < length xs = slice_get_within xs i t h in
    let iny : j < length ys = slice_get_within ys j t k in
    let at_i : slice_index_or (xs ++ ys) i t ≡ t = get_or_append_left xs ys t i inx ∙ get_or_from_slice_get xs i t t h in
    let at_j : slice_index_or (xs ++ ys) (length xs + j) t ≡ t = get_or-append-add xs ys j t ∙ get_or_from_slice_get ys j t t k in
    all i (length xs + j) t (omega (arith, inx)) (omega (arith, length-append xs ys, iny)) (at_i ∙ sym at_j)

pub not_both : (m : Lists) → IsModel m → (p q : Point) (a : AttrId) (r : RelId) → p ≡ q → attribute_named m p.phrase ≡ Some a → relation_named m q.phrase ≡ Some r → ⊥
not_both m im p q a r e h k =
    apart (attribute_phrases m) (relation_phrases m) a.0 r.0 q.phrase im.phrases_differ
    (attribute_found m q.phrase a (ap (λ (x : Point). attribute_named m x.phrase) (sym e) ∙ h)) (relation_found m q.phrase r k)
