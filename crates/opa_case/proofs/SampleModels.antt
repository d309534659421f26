-- The model of schools and pupils is one.
use Rattle.std.specs.Prelude.{◌≡◌, ◌≢◌, ◌↔◌, ◌<◌, ◌≤◌, ◌+◌, ℕ, zero, suc, true, false, List, [], ◌∷◌, ◌++◌, Option, Some, All, AllPairs, IsTrue, IsSome, IfSome, length, map, slice_get, is_some, refl}
use Rattle.std.proofs.Common.{arith, ap, sym, subst, ◌∙◌}
use Rattle.std.proofs.lemmas.List.{map-append}
use Rattle.std.proofs.lemmas.List.Elements.{All-nil, All-cons, All-append, All-get_or}
use Rattle.std.proofs.lemmas.List.Quantifiers.{all_pairs_push}
use Rattle.std.proofs.lemmas.Option.{same_Some}
use Rattle.opa_io.proofs.Lists.{no_pairs, All_one, All_weaker}
use Rattle.opa_model.specs.declared.ids.AttrId.{AttrId}
use Rattle.opa_model.specs.declared.lists.Lists.{Lists}
use Rattle.opa_model.specs.declared.things.Attribute.{Attribute}
use Rattle.opa_model.specs.declared.things.Entity.{Entity}
use Rattle.opa_model.specs.declared.things.Item.{Item}
use Rattle.opa_model.specs.declared.things.Kind.TheVariants as kinds
use Rattle.opa_model.specs.declared.things.Relation.{Relation}
use Rattle.opa_model.specs.declared.things.Screen.{Screen}
use Rattle.opa_model.specs.declared.things.Sentence.{Sentence}
use Rattle.opa_model.specs.declared.things.Verb.{Verb}
use Rattle.opa_model.specs.Lookups.{attribute_at}
use Rattle.opa_model.specs.Models.{HasEntity, HasAttribute, HasVerb, HasItem, HasDecimals, IsModel, IsContained, IsContainment, IsOverAll}
use Rattle.opa_case.specs.Samples.{entity_of, sample_entities, relation_of, sample_relations, IsSample, AreSamples}

abbrev phrases : List Attribute → List (List ℕ)
phrases attributes = map (λ a. a.phrase) attributes

-- a text of a new length
push_apart : (xs : List (List ℕ)) (y : List ℕ) → AllPairs (λ p q. p ≢ q) xs → All (λ (p : List ℕ). length p ≢ length y) xs → AllPairs (λ p q. p ≢ q) (xs ++ y ∷ [])
push_apart xs y pairs apart = all_pairs_push (λ p q. p ≢ q) xs y pairs (λ k d lt same. All-get_or (λ (p : List ℕ). length p ≢ length y) xs k d lt apart (ap length same))

pub no_samples : AreSamples 0 []
no_samples = record {
  counted = refl;
  each = All-nil IsSample;
  long = All-nil (λ (p : List ℕ). 20 ≤ length p);
  short = All-nil (λ (p : List ℕ). length p < 20);
  differ = no_pairs (λ p q. p ≢ q);
}

pub one_sample : (k : ℕ) (attributes : List Attribute) (a : Attribute) → AreSamples k attributes → IsSample a → length a.phrase ≡ 20 + k → AreSamples (k + 1) (attributes ++ a ∷ [])
one_sample k attributes a before is new =
    let split : phrases (attributes ++ a ∷ []) ≡ phrases attributes ++ a.phrase ∷ [] = map-append (λ (x : Attribute). x.phrase) attributes (a ∷ []) in
    record {
      counted = length_push attributes a ∙ ap (λ n. n + 1) before.counted;
      each = All-append IsSample attributes (a ∷ []) before.each (All_one IsSample a is);
      long = subst (All (λ (p : List ℕ). 20 ≤ length p)) (sym split) (All-append (λ (p : List ℕ). 20 ≤ length p) (phrases attributes) (a.phrase ∷ []) before.long (All_one (λ (p : List ℕ). 20 ≤ length p) a.phrase (omega (arith, new))));
      short = subst (All (λ (p : List ℕ). length p < 20 + (k + 1))) (sym split) (All-append (λ (p : List ℕ). length p < 20 + (k + 1)) (phrases attributes) (a.phrase ∷ []) (All_weaker (λ (p : List ℕ). length p < 20 + k) (λ (p : List ℕ). length p < 20 + (k + 1)) (λ p h. omega (arith, h)) (phrases attributes) before.short) (All_one (λ (p : List ℕ). length p < 20 + (k + 1)) a.phrase (omega (arith, new))));
      differ = subst (AllPairs (λ p q. p ≢ q)) (sym split) (push_apart (phrases attributes) a.phrase before.differ (All_weaker (λ (p : List ℕ). length p < 20 + k) (λ (p : List ℕ). length p ≢ length a.phrase) (λ p h. omega (arith, h, new)) (phrases attributes) before.short));
    }
  where
    length_push : (xs : List Attribute) (x : Attribute) → length (xs ++ x ∷ []) ≡ length xs + 1
    length_push [] x = refl
    length_push (y ∷ ys) x = let h = length_push ys x in omega (arith, h)

-- the phrases of the relations, by their lengths
pub record HaveLengths (schools pupils twin roll : List ℕ) : Type 0 where
  pub of_schools : length schools ≡ 7
  pub of_pupils : length pupils ≡ 6
  pub of_twin : length twin ≡ 13
  pub of_roll : length roll ≡ 8

module _ (count : ℕ) (attributes : List Attribute) (schools pupils twin roll : List ℕ) where
  abbrev pub sample : Lists
  sample = record { entities = sample_entities; attributes = attributes; relations = sample_relations schools pupils twin roll; verbs = []; screens = []; goals = [] }

  all_apart : AreSamples count attributes → HaveLengths schools pupils twin roll → AllPairs (λ p q. p ≢ q) (phrases attributes ++ schools ∷ pupils ∷ twin ∷ roll ∷ [])
  all_apart are have =
      let far : (n : ℕ) → n < 20 → All (λ (p : List ℕ). length p ≢ n) (phrases attributes) = λ n lt. All_weaker (λ (p : List ℕ). 20 ≤ length p) (λ (p : List ℕ). length p ≢ n) (λ p h. omega (arith, h, lt)) (phrases attributes) are.long in
      let xs0 = phrases attributes in
      let xs1 = xs0 ++ schools ∷ [] in
      let xs2 = xs1 ++ pupils ∷ [] in
      let xs3 = xs2 ++ twin ∷ [] in
      let a0 : (y : List ℕ) → length y < 20 → All (λ (p : List ℕ). length p ≢ length y) xs0 = λ y lt. far (length y) lt in
      let a1 : (y : List ℕ) → length y < 20 → length schools ≢ length y → All (λ (p : List ℕ). length p ≢ length y) xs1 = λ y lt n. All-append (λ (p : List ℕ). length p ≢ length y) xs0 (schools ∷ []) (a0 y lt) (All_one (λ (p : List ℕ). length p ≢ length y) schools n) in
      let a2 : (y : List ℕ) → length y < 20 → length schools ≢ length y → length pupils ≢ length y → All (λ (p : List ℕ). length p ≢ length y) xs2 = λ y lt n m. All-append (λ (p : List ℕ). length p ≢ length y) xs1 (pupils ∷ []) (a1 y lt n) (All_one (λ (p : List ℕ). length p ≢ length y) pupils m) in
      let a3 : (y : List ℕ) → length y < 20 → length schools ≢ length y → length pupils ≢ length y → length twin ≢ length y → All (λ (p : List ℕ). length p ≢ length y) xs3 = λ y lt n m k. All-append (λ (p : List ℕ). length p ≢ length y) xs2 (twin ∷ []) (a2 y lt n m) (All_one (λ (p : List ℕ). length p ≢ length y) twin k) in
      let p1 = push_apart xs0 schools are.differ (a0 schools (omega (arith, have.of_schools))) in
      let p2 = push_apart xs1 pupils p1 (a1 pupils (omega (arith, have.of_pupils)) (omega (arith, have.of_pupils, have.of_schools))) in
      let p3 = push_apart xs2 twin p2 (a2 twin (omega (arith, have.of_twin)) (omega (arith, have.of_twin, have.of_schools)) (omega (arith, have.of_twin, have.of_pupils))) in
      let p4 = push_apart xs3 roll p3 (a3 roll (omega (arith, have.of_roll)) (omega (arith, have.of_roll, have.of_schools)) (omega (arith, have.of_roll, have.of_pupils)) (omega (arith, have.of_roll, have.of_twin))) in
      subst (AllPairs (λ p q. p ≢ q)) (joined xs0) p4
    where
      joined : (xs : List (List ℕ)) → (((xs ++ schools ∷ []) ++ pupils ∷ []) ++ twin ∷ []) ++ roll ∷ [] ≡ xs ++ schools ∷ pupils ∷ twin ∷ roll ∷ []
      joined [] = refl
      joined (x ∷ xs) = ap (λ ys. x ∷ ys) (joined xs)

  decimals_of : (a : Attribute) → IsSample a → HasDecimals a
  decimals_of a is = record { few = omega (arith, is.few); of_currency = λ c. is.few }

  sentences_of : (a : Attribute) → IsSample a → IsSome a.sentence ↔ (a.kind ≡ kinds.Bool)
  sentences_of a is = (λ h. absurd (cc (sym (ap is_some is.no_sentence) ∙ h)), λ h. absurd (is.not_bool h))

  school : IsContained sample 1 (entity_of 0 0)
  school = record { earlier = omega arith; relation = relation_of schools 0 1 true false false; by_it = refl; contains = refl; to_many = refl; from_parent = refl; to_it = refl }

  pupil : IsContained sample 2 (entity_of 1 1)
  pupil = record { earlier = omega arith; relation = relation_of pupils 1 2 true false false; by_it = refl; contains = refl; to_many = refl; from_parent = refl; to_it = refl }

  contained_at : (n : ℕ) (e : Entity) → 0 < n → slice_get sample_entities n ≡ Some e → IsContained sample n e
  contained_at zero e pos at = absurd (omega (arith, pos))
  contained_at (suc zero) e pos at = subst (IsContained sample 1) (same_Some (entity_of 0 0) e at) school
  contained_at (suc (suc zero)) e pos at = subst (IsContained sample 2) (same_Some (entity_of 1 1) e at) pupil
  contained_at (suc (suc (suc n))) e pos at = absurd (cc at)

  containment_at : (n : ℕ) (r : Relation) → slice_get (sample_relations schools pupils twin roll) n ≡ Some r → IsTrue r.contains → IsContainment sample n r
  containment_at zero r at con = subst (IsContainment sample 0) (same_Some (relation_of schools 0 1 true false false) r at) (record { not_the_first = omega arith; target = entity_of 0 0; at_it = refl; by_it = refl })
  containment_at (suc zero) r at con = subst (IsContainment sample 1) (same_Some (relation_of pupils 1 2 true false false) r at) (record { not_the_first = omega arith; target = entity_of 1 1; at_it = refl; by_it = refl })
  containment_at (suc (suc zero)) r at con = absurd (cc (ap (λ (x : Relation). x.contains) (same_Some (relation_of twin 1 1 false true false) r at) ∙ con))
  containment_at (suc (suc (suc zero))) r at con = absurd (cc (ap (λ (x : Relation). x.contains) (same_Some (relation_of roll 0 2 false false true) r at) ∙ con))
  containment_at (suc (suc (suc (suc n)))) r at con = absurd (cc at)

  four : (P : Relation → Type 0) → P (relation_of schools 0 1 true false false) → P (relation_of pupils 1 2 true false false) → P (relation_of twin 1 1 false true false) → P (relation_of roll 0 2 false false true) → All P (sample_relations schools pupils twin roll)
  four P a b c d =
      let last = relation_of roll 0 2 false false true in
      let third = relation_of twin 1 1 false true false in
      let second = relation_of pupils 1 2 true false false in
      All-cons P (relation_of schools 0 1 true false false) (second ∷ third ∷ last ∷ []) a (All-cons P second (third ∷ last ∷ []) b (All-cons P third (last ∷ []) c (All_one P last d)))

  pub sample_model : count ≤ 1000 → AreSamples count attributes → HaveLengths schools pupils twin roll → IsModel sample
  sample_model few are have = record {
    has_global = omega arith;
    few = record { entities = omega arith; attributes = omega (arith, few, are.counted); relations = omega arith; verbs = omega arith; screens = omega arith; goals = omega arith };
    in_range = record {
      parents = All-cons (λ (e : Entity). HasEntity sample e.parent) (entity_of 0 0) (entity_of 0 0 ∷ entity_of 1 1 ∷ []) (omega arith) (All-cons (λ (e : Entity). HasEntity sample e.parent) (entity_of 0 0) (entity_of 1 1 ∷ []) (omega arith) (All_one (λ (e : Entity). HasEntity sample e.parent) (entity_of 1 1) (omega arith)));
      owners = All_weaker IsSample (λ (a : Attribute). HasEntity sample a.entity) (λ a is. omega (arith, is.of_school)) attributes are.each;
      verbs = All_weaker IsSample (λ (a : Attribute). IfSome a.sentence (HasVerb sample)) (λ a is. subst (λ (o : Option Sentence). IfSome o (HasVerb sample)) (sym is.no_sentence) tt) attributes are.each;
      sources = four (λ (r : Relation). HasEntity sample r.source) (omega arith) (omega arith) (omega arith) (omega arith);
      targets = four (λ (r : Relation). HasEntity sample r.target) (omega arith) (omega arith) (omega arith) (omega arith);
      items = All-nil (λ (s : Screen). All (HasItem sample) s.items);
      goals = All-nil (HasAttribute sample);
    };
    goals_are_global = All-nil (λ (id : AttrId). IfSome (attribute_at sample id) (λ a. a.entity.0 ≡ 0));
    phrases_differ = all_apart are have;
    decimals = All_weaker IsSample HasDecimals decimals_of attributes are.each;
    bools_have_sentences = All_weaker IsSample (λ (a : Attribute). IsSome a.sentence ↔ (a.kind ≡ kinds.Bool)) sentences_of attributes are.each;
    items_differ = no_pairs (λ (i j : Item). i ≢ j);
    contained = contained_at;
    containments = containment_at;
    over_all = four (λ (r : Relation). IsTrue r.every → IsOverAll r) (λ h. absurd (cc h)) (λ h. absurd (cc h)) (λ h. absurd (cc h)) (λ _. record { contains_none = refl; to_many = refl; from_global = refl; to_another = omega arith });
  }

  pub sample_at : (es : List Entity) (rs : List Relation) (vs : List Verb) (ss : List Screen) (gs : List AttrId) → es ≡ sample_entities → rs ≡ sample_relations schools pupils twin roll → vs ≡ [] → ss ≡ [] → gs ≡ [] → IsModel sample → IsModel (record { entities = es; attributes = attributes; relations = rs; verbs = vs; screens = ss; goals = gs })
  sample_at es rs vs ss gs es_is rs_is vs_is ss_is gs_is is =
      let path : record { entities = es; attributes = attributes; relations = rs; verbs = vs; screens = ss; goals = gs } ≡ sample = λ k. record { entities = es_is k; attributes = attributes; relations = rs_is k; verbs = vs_is k; screens = ss_is k; goals = gs_is k } in
      subst (λ (m : Lists). IsModel m) (sym path) is
