-- A declared phrase names what it is declared of.
use Rattle.std.proofs.Common.{◌≡◌, ◌≢◌, ◌<◌, ◌+◌, ℕ, List, ◌++◌, length, map, arith, refl, sym, ap, ◌∙◌, ◌⊎◌, inl, inr}
use Rattle.std.specs.Prelude.{Option, None, Some, position, slice_get, slice_index_or, unwrap_or}
use Rattle.std.specs.List.{AllPairs}
use Rattle.std.specs.Option.{option_map}
use Rattle.std.specs.Str.{bytes_eq}
use Rattle.std.proofs.lemmas.List.{length-map, length-append, get_or-map, get_or_append_left, get_or-append-add}
use Rattle.std.proofs.lemmas.Option.{slice_get_within, get_or_from_slice_get, slice_get-get_or}
use Rattle.opa_model.specs.declared.ids.AttrId.{AttrId}
use Rattle.opa_model.specs.declared.ids.RelId.{RelId}
use Rattle.opa_model.specs.declared.lists.Lists.{Lists}
use Rattle.opa_model.specs.declared.things.Attribute.{Attribute}
use Rattle.opa_model.specs.declared.things.Relation.{Relation}
use Rattle.opa_model.specs.Lookups.{attribute_named, relation_named, attribute_phrases, relation_phrases}
use Rattle.opa_model.specs.Models.{IsModel}
use Rattle.opa_model.proofs.PhrasesLaws.{position-found, position-none}
use Rattle.opa_case.specs.Shapes.{no_attribute, no_relation, attribute_or, relation_or}

order : (a b : ℕ) → (a < b) ⊎ ((a ≡ b) ⊎ (b < a))
order a b = grind arith

own_position : (ps : List (List ℕ)) (n : ℕ) (t : List ℕ) → AllPairs (λ p q. p ≢ q) ps → slice_get ps n ≡ Some t → position (bytes_eq t) ps ≡ Some n
own_position ps n t apart at = go (position (bytes_eq t) ps) refl
  where
    here : (k : ℕ) → slice_get ps k ≡ Some t → slice_index_or ps k t ≡ t
    here k e = get_or_from_slice_get ps k t t e

    one : (k : ℕ) → slice_get ps k ≡ Some t → (k < n) ⊎ ((k ≡ n) ⊎ (n < k)) → k ≡ n
    one k e (inl lt) = absurd (apart k n t lt (slice_get_within ps n t at) (here k e ∙ sym (here n at)))
    one k e (inr (inl same)) = same
    one k e (inr (inr lt)) = absurd (apart n k t lt (slice_get_within ps k t e) (here n at ∙ sym (here k e)))

    go : (o : Option ℕ) → o ≡ position (bytes_eq t) ps → position (bytes_eq t) ps ≡ Some n
    go None e = absurd ((position-none t ps None e).0 refl (n, slice_get_within ps n t at, here n at))
    go (Some k) e = sym e ∙ ap Some (one k (position-found t ps (Some k) e) (order k n))

pairs_left : (xs ys : List (List ℕ)) → AllPairs (λ p q. p ≢ q) (xs ++ ys) → AllPairs (λ p q. p ≢ q) xs
pairs_left xs ys h i j d lt within e =
    h i j d lt (omega (arith, within, length-append xs ys)) (get_or_append_left xs ys d i (omega (arith, lt, within)) ∙ e ∙ sym (get_or_append_left xs ys d j within))

pairs_right : (xs ys : List (List ℕ)) → AllPairs (λ p q. p ≢ q) (xs ++ ys) → AllPairs (λ p q. p ≢ q) ys
pairs_right xs ys h i j d lt within e =
    h (length xs + i) (length xs + j) d (omega (arith, lt)) (omega (arith, within, length-append xs ys)) (get_or-append-add xs ys i d ∙ e ∙ sym (get_or-append-add xs ys j d))

-- the phrase of the thing at a place
pub phrase_at : {A : Type 0} (f : A → List ℕ) (xs : List A) (n : ℕ) (d : A) → n < length xs → slice_get (map f xs) n ≡ Some (f (unwrap_or (slice_get xs n) d))
phrase_at f xs n d lt =
    slice_get-get_or (map f xs) n (f d) (omega (arith, lt, length-map xs f)) ∙ ap Some (get_or-map f xs n d (f d) lt)
    ∙ ap (λ o. Some (f (unwrap_or o d))) (sym (slice_get-get_or xs n d lt))

module _ (m : Lists) (im : IsModel m) where
  pub own_attribute : (a : AttrId) → a.0 < length m.attributes → attribute_named m (attribute_or m a).phrase ≡ Some a
  own_attribute a lt =
      ap (option_map (λ k. let x : AttrId = record { 0 = k } in x))
      (own_position (attribute_phrases m) a.0 (attribute_or m a).phrase (pairs_left (attribute_phrases m) (relation_phrases m) im.phrases_differ) (phrase_at (λ (x : Attribute). x.phrase) m.attributes a.0 no_attribute lt))

  pub own_relation : (q : RelId) → q.0 < length m.relations → relation_named m (relation_or m q).phrase ≡ Some q
  own_relation q lt =
      ap (option_map (λ k. let x : RelId = record { 0 = k } in x))
      (own_position (relation_phrases m) q.0 (relation_or m q).phrase (pairs_right (attribute_phrases m) (relation_phrases m) im.phrases_differ) (phrase_at (λ (x : Relation). x.phrase) m.relations q.0 no_relation lt))
