-- The simplest model: bools of the global entity.
use Rattle.std.proofs.Common.{◌≡◌, ◌≢◌, ◌↔◌, IsTrue, Bool, false, ℕ, zero, suc, ◌+◌, ◌<◌, ◌≤◌, List, [], ◌∷◌, Option, None, Some, All, IfSome, IsSome, slice_get, refl, sym, ap, ◌∙◌, subst, arith}
use Rattle.std.proofs.lemmas.List.Elements.{All-nil, All-cons}
use Rattle.std.proofs.lemmas.List.Kept.{AllPairs-cons}
use Rattle.std.proofs.lemmas.Bool.{false≢true}
use Rattle.std.specs.Str.{bytes_eq}
use Rattle.opa_io.proofs.Lists.{no_pairs, All_one}
use Rattle.opa_io.proofs.Characters.{own_bytes}
use Rattle.opa_model.specs.declared.ids.AttrId.{AttrId}
use Rattle.opa_model.specs.declared.things.Attribute.{Attribute}
use Rattle.opa_model.specs.declared.things.Entity.{Entity}
use Rattle.opa_model.specs.declared.things.Kind.TheVariants as kind
use Rattle.opa_model.specs.declared.things.Relation.{Relation}
use Rattle.opa_model.specs.declared.things.Screen.{Screen}
use Rattle.opa_model.specs.declared.things.Sentence.{Sentence}
use Rattle.opa_model.specs.declared.things.Verb.{Verb}
use Rattle.opa_model.specs.declared.lists.Lists.{Lists}
use Rattle.opa_model.specs.Lookups.{attribute_at}
use Rattle.opa_model.specs.Models.{HasEntity, HasAttribute, HasVerb, HasItem, HasDecimals, IsModel, IsContained, IsContainment, IsOverAll}
use Rattle.opa_model.specs.Samples.{IsGlobalBool}

two : {X : Type 0} (P : X → Type 0) (x y : X) → P x → P y → All P (x ∷ y ∷ [])
two P x y p q = All-cons P x (y ∷ []) p (All_one P y q)

-- texts that a test tells apart
pub apart_by : (p q x y : List ℕ) → p ≡ x → q ≡ y → bytes_eq x y ≡ false → p ≢ q
apart_by p q x y p_is q_is differs same =
    false≢true (sym differs ∙ ap (λ t. bytes_eq t y) (sym p_is ∙ same ∙ q_is) ∙ own_bytes y)

module _ (e : Entity) (a b : Attribute) (v : Verb) where
  abbrev pub small : Lists
  small = record { entities = e ∷ []; attributes = a ∷ b ∷ []; relations = []; verbs = v ∷ []; screens = []; goals = record { 0 = 0 } ∷ [] }

  said : (x : Attribute) → IsGlobalBool x → IfSome x.sentence (HasVerb small)
  said x is = subst (λ (o : Option Sentence). IfSome o (HasVerb small)) (sym is.is_said) (omega (arith, is.by_first_verb))

  decimals_of : (x : Attribute) → IsGlobalBool x → HasDecimals x
  decimals_of x is = record { few = omega (arith, is.without_decimals); of_currency = λ c. omega (arith, is.without_decimals) }

  is_saying : (x : Attribute) → IsGlobalBool x → IsSome x.sentence ↔ (x.kind ≡ kind.Bool)
  is_saying x is = (λ h. is.is_bool, λ h. subst (λ (o : Option Sentence). IsSome o) (sym is.is_said) refl)

  no_more : (n : ℕ) (x : Entity) → 0 < n → slice_get (e ∷ []) n ≡ Some x → IsContained small n x
  no_more zero x lt is = absurd (omega arith)
  no_more (suc n) x lt is = cc

  pub small_model : e.parent.0 ≡ 0 → IsGlobalBool a → IsGlobalBool b → a.phrase ≢ b.phrase → IsModel small
  small_model root is_a is_b apart = record {
    has_global = omega arith;
    few = record { entities = omega arith; attributes = omega arith; relations = omega arith; verbs = omega arith; screens = omega arith; goals = omega arith };
    in_range = record {
      parents = All_one (λ (x : Entity). HasEntity small x.parent) e (omega (arith, root));
      owners = two (λ (x : Attribute). HasEntity small x.entity) a b (omega (arith, is_a.of_global)) (omega (arith, is_b.of_global));
      verbs = two (λ (x : Attribute). IfSome x.sentence (HasVerb small)) a b (said a is_a) (said b is_b);
      sources = All-nil (λ (r : Relation). HasEntity small r.source);
      targets = All-nil (λ (r : Relation). HasEntity small r.target);
      items = All-nil (λ (s : Screen). All (HasItem small) s.items);
      goals = All_one (HasAttribute small) (record { 0 = 0 }) (omega arith);
    };
    goals_are_global = All_one (λ (id : AttrId). IfSome (attribute_at small id) (λ x. x.entity.0 ≡ 0)) (record { 0 = 0 }) is_a.of_global;
    phrases_differ = AllPairs-cons (λ p q. p ≢ q) a.phrase (b.phrase ∷ []) (All_one (λ p. a.phrase ≢ p) b.phrase apart) (AllPairs-cons (λ p q. p ≢ q) b.phrase [] (All-nil (λ p. b.phrase ≢ p)) (no_pairs (λ p q. p ≢ q)));
    decimals = two HasDecimals a b (decimals_of a is_a) (decimals_of b is_b);
    bools_have_sentences = two (λ (x : Attribute). IsSome x.sentence ↔ (x.kind ≡ kind.Bool)) a b (is_saying a is_a) (is_saying b is_b);
    items_differ = no_pairs (λ i j. i ≢ j);
    contained = no_more;
    containments = λ n r is contains. cc is;
    over_all = All-nil (λ (r : Relation). IsTrue r.every → IsOverAll r);
  }

  pub small_at : (es : List Entity) (xs : List Attribute) (rs : List Relation) (vs : List Verb) (ss : List Screen) (gs : List AttrId)
      → es ≡ e ∷ [] → xs ≡ a ∷ b ∷ [] → rs ≡ [] → vs ≡ v ∷ [] → ss ≡ [] → gs ≡ record { 0 = 0 } ∷ []
      → IsModel small → IsModel (record { entities = es; attributes = xs; relations = rs; verbs = vs; screens = ss; goals = gs })
  small_at es xs rs vs ss gs es_is xs_is rs_is vs_is ss_is gs_is is =
      let path : record { entities = es; attributes = xs; relations = rs; verbs = vs; screens = ss; goals = gs } ≡ small = λ i. record { entities = es_is i; attributes = xs_is i; relations = rs_is i; verbs = vs_is i; screens = ss_is i; goals = gs_is i } in
      subst (λ (m : Lists). IsModel m) (sym path) is
