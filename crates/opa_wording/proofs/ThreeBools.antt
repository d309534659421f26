-- A model of three bools of the global entity.
use Rattle.std.proofs.Common.{◌≡◌, ◌≢◌, ◌↔◌, IsTrue, ℕ, zero, suc, ◌<◌, List, [], ◌∷◌, Option, Some, All, IfSome, IsSome, slice_get, refl, sym, subst, arith}
use Rattle.std.proofs.lemmas.List.Elements.{All-nil, All-cons}
use Rattle.std.proofs.lemmas.List.Kept.{AllPairs-cons}
use Rattle.opa_io.proofs.Lists.{no_pairs, All_one}
use Rattle.opa_model.specs.declared.ids.AttrId.{AttrId}
use Rattle.opa_model.specs.declared.things.Attribute.{Attribute}
use Rattle.opa_model.specs.declared.things.Entity.{Entity}
use Rattle.opa_model.specs.declared.things.Kind.TheVariants as kind
use Rattle.opa_model.specs.declared.things.Relation.{Relation}
use Rattle.opa_model.specs.declared.things.Screen.{Screen}
use Rattle.opa_model.specs.declared.things.Sentence.{Sentence}
use Rattle.opa_model.specs.declared.things.Verb.{Verb}
use Rattle.opa_model.specs.declared.lists.Lists.{Lists}
use Rattle.opa_model.specs.Lookups.{attribute_at}
use Rattle.opa_model.specs.Models.{HasEntity, HasAttribute, HasVerb, HasItem, HasDecimals, IsModel, IsContained, IsOverAll}
use Rattle.opa_model.specs.Samples.{IsGlobalBool}

three : {X : Type 0} (P : X → Type 0) (x y z : X) → P x → P y → P z → All P (x ∷ y ∷ z ∷ [])
three P x y z p q r = All-cons P x (y ∷ z ∷ []) p (All-cons P y (z ∷ []) q (All_one P z r))

module _ (e : Entity) (a b c : Attribute) (v : Verb) where
  abbrev pub bools : Lists
  bools = record { entities = e ∷ []; attributes = a ∷ b ∷ c ∷ []; relations = []; verbs = v ∷ []; screens = []; goals = record { 0 = 0 } ∷ [] }

  said : (x : Attribute) → IsGlobalBool x → IfSome x.sentence (HasVerb bools)
  said x is = subst (λ (o : Option Sentence). IfSome o (HasVerb bools)) (sym is.is_said) (omega (arith, is.by_first_verb))

  decimals_of : (x : Attribute) → IsGlobalBool x → HasDecimals x
  decimals_of x is = record { few = omega (arith, is.without_decimals); of_currency = λ c. omega (arith, is.without_decimals) }

  is_saying : (x : Attribute) → IsGlobalBool x → IsSome x.sentence ↔ (x.kind ≡ kind.Bool)
  is_saying x is = (λ h. is.is_bool, λ h. subst (λ (o : Option Sentence). IsSome o) (sym is.is_said) refl)

  no_more : (n : ℕ) (x : Entity) → 0 < n → slice_get (e ∷ []) n ≡ Some x → IsContained bools n x
  no_more zero x lt is = absurd (omega arith)
  no_more (suc n) x lt is = cc

  pub bools_model : e.parent.0 ≡ 0 → IsGlobalBool a → IsGlobalBool b → IsGlobalBool c → a.phrase ≢ b.phrase → a.phrase ≢ c.phrase → b.phrase ≢ c.phrase → IsModel bools
  bools_model root is_a is_b is_c ab ac bc = record {
    has_global = omega arith;
    few = record { entities = omega arith; attributes = omega arith; relations = omega arith; verbs = omega arith; screens = omega arith; goals = omega arith };
    in_range = record {
      parents = All_one (λ (x : Entity). HasEntity bools x.parent) e (omega (arith, root));
      owners = three (λ (x : Attribute). HasEntity bools x.entity) a b c (omega (arith, is_a.of_global)) (omega (arith, is_b.of_global)) (omega (arith, is_c.of_global));
      verbs = three (λ (x : Attribute). IfSome x.sentence (HasVerb bools)) a b c (said a is_a) (said b is_b) (said c is_c);
      sources = All-nil (λ (r : Relation). HasEntity bools r.source);
      targets = All-nil (λ (r : Relation). HasEntity bools r.target);
      items = All-nil (λ (s : Screen). All (HasItem bools) s.items);
      goals = All_one (HasAttribute bools) (record { 0 = 0 }) (omega arith);
    };
    goals_are_global = All_one (λ (id : AttrId). IfSome (attribute_at bools id) (λ x. x.entity.0 ≡ 0)) (record { 0 = 0 }) is_a.of_global;
    phrases_differ = AllPairs-cons (λ p q. p ≢ q) a.phrase (b.phrase ∷ c.phrase ∷ []) (All-cons (λ p. a.phrase ≢ p) b.phrase (c.phrase ∷ []) ab (All_one (λ p. a.phrase ≢ p) c.phrase ac))
        (AllPairs-cons (λ p q. p ≢ q) b.phrase (c.phrase ∷ []) (All_one (λ p. b.phrase ≢ p) c.phrase bc) (AllPairs-cons (λ p q. p ≢ q) c.phrase [] (All-nil (λ p. c.phrase ≢ p)) (no_pairs (λ p q. p ≢ q))));
    decimals = three HasDecimals a b c (decimals_of a is_a) (decimals_of b is_b) (decimals_of c is_c);
    bools_have_sentences = three (λ (x : Attribute). IsSome x.sentence ↔ (x.kind ≡ kind.Bool)) a b c (is_saying a is_a) (is_saying b is_b) (is_saying c is_c);
    items_differ = no_pairs (λ i j. i ≢ j);
    contained = no_more;
    containments = λ n r is contains. cc is;
    over_all = All-nil (λ (r : Relation). IsTrue r.every → IsOverAll r);
  }

  pub bools_at : (es : List Entity) (xs : List Attribute) (rs : List Relation) (vs : List Verb) (ss : List Screen) (gs : List AttrId)
      → es ≡ e ∷ [] → xs ≡ a ∷ b ∷ c ∷ [] → rs ≡ [] → vs ≡ v ∷ [] → ss ≡ [] → gs ≡ record { 0 = 0 } ∷ []
      → IsModel bools → IsModel (record { entities = es; attributes = xs; relations = rs; verbs = vs; screens = ss; goals = gs })
  bools_at es xs rs vs ss gs es_is xs_is rs_is vs_is ss_is gs_is is =
      let path : record { entities = es; attributes = xs; relations = rs; verbs = vs; screens = ss; goals = gs } ≡ bools = λ i. record { entities = es_is i; attributes = xs_is i; relations = rs_is i; verbs = vs_is i; screens = ss_is i; goals = gs_is i } in
      subst (λ (m : Lists). IsModel m) (sym path) is
