-- The smallest model with a number and a list.
use Rattle.std.proofs.Common.{◌≡◌, ◌≢◌, ◌↔◌, IsTrue, ℕ, zero, suc, ◌<◌, List, [], ◌∷◌, Option, Some, All, IfSome, IsSome, slice_get, sym, ap, ◌∙◌, subst, arith}
use Rattle.std.specs.Prelude.{is_some}
use Rattle.std.proofs.lemmas.List.Elements.{All-nil}
use Rattle.std.proofs.lemmas.List.Kept.{AllPairs-cons}
use Rattle.opa_io.proofs.Lists.{no_pairs, All_one}
use Rattle.opa_model.specs.declared.ids.AttrId.{AttrId}
use Rattle.opa_model.specs.declared.things.Attribute.{Attribute}
use Rattle.opa_model.specs.declared.things.Entity.{Entity}
use Rattle.opa_model.specs.declared.things.Kind.TheVariants as kind
use Rattle.opa_model.specs.declared.things.Relation.{Relation}
use Rattle.opa_model.specs.declared.things.Screen.{Screen}
use Rattle.opa_model.specs.declared.things.Sentence.{Sentence}
use Rattle.opa_model.specs.declared.things.Verb.{Verb}
use Rattle.opa_model.specs.declared.lists.Lists.{Lists}
use Rattle.opa_model.specs.Lookups.{attribute_at}
use Rattle.opa_model.specs.Models.{HasEntity, HasAttribute, HasVerb, HasItem, HasDecimals, IsModel, IsContained, IsContainment, IsOverAll}
use Rattle.opa_text.specs.Samples.{IsGlobalNumber, IsGlobalList}

module _ (e : Entity) (a : Attribute) (r : Relation) where
  abbrev pub listing : Lists
  listing = record { entities = e ∷ []; attributes = a ∷ []; relations = r ∷ []; verbs = []; screens = []; goals = [] }

  no_sentence : IsGlobalNumber a → IfSome a.sentence (HasVerb listing)
  no_sentence is = subst (λ (o : Option Sentence). IfSome o (HasVerb listing)) (sym is.without_sentence) tt

  not_bool : IsGlobalNumber a → a.kind ≡ kind.Bool → ⊥
  not_bool is h = absurd (let f : kind.Number ≡ kind.Bool = sym is.is_number ∙ h in cc f)

  is_saying : IsGlobalNumber a → IsSome a.sentence ↔ (a.kind ≡ kind.Bool)
  is_saying is = (λ h. absurd (cc (sym (ap is_some is.without_sentence) ∙ h)), λ h. absurd (not_bool is h))

  decimals_of : IsGlobalNumber a → HasDecimals a
  decimals_of is = record { few = omega (arith, is.without_decimals); of_currency = λ c. omega (arith, is.without_decimals) }

  no_more : (n : ℕ) (x : Entity) → 0 < n → slice_get (e ∷ []) n ≡ Some x → IsContained listing n x
  no_more zero x lt is = absurd (omega arith)
  no_more (suc n) x lt is = absurd (cc is)

  one_list : IsGlobalList r → (n : ℕ) (x : Relation) → slice_get (r ∷ []) n ≡ Some x → IsTrue x.contains → IsContainment listing n x
  one_list is zero x at con = absurd (let f : r ≡ x = cc at in cc (sym is.contains_none ∙ ap (λ (y : Relation). y.contains) f ∙ con))
  one_list is (suc n) x at con = absurd (cc at)

  pub listing_model : e.parent.0 ≡ 0 → IsGlobalNumber a → IsGlobalList r → a.phrase ≢ r.phrase → IsModel listing
  listing_model root is_a is_r apart = record {
    has_global = omega arith;
    few = record { entities = omega arith; attributes = omega arith; relations = omega arith; verbs = omega arith; screens = omega arith; goals = omega arith };
    in_range = record {
      parents = All_one (λ (x : Entity). HasEntity listing x.parent) e (omega (arith, root));
      owners = All_one (λ (x : Attribute). HasEntity listing x.entity) a (omega (arith, is_a.of_global));
      verbs = All_one (λ (x : Attribute). IfSome x.sentence (HasVerb listing)) a (no_sentence is_a);
      sources = All_one (λ (x : Relation). HasEntity listing x.source) r (omega (arith, is_r.from_global));
      targets = All_one (λ (x : Relation). HasEntity listing x.target) r (omega (arith, is_r.to_global));
      items = All-nil (λ (s : Screen). All (HasItem listing) s.items);
      goals = All-nil (HasAttribute listing);
    };
    goals_are_global = All-nil (λ (id : AttrId). IfSome (attribute_at listing id) (λ x. x.entity.0 ≡ 0));
    phrases_differ = AllPairs-cons (λ p q. p ≢ q) a.phrase (r.phrase ∷ []) (All_one (λ p. a.phrase ≢ p) r.phrase apart) (AllPairs-cons (λ p q. p ≢ q) r.phrase [] (All-nil (λ p. r.phrase ≢ p)) (no_pairs (λ p q. p ≢ q)));
    decimals = All_one HasDecimals a (decimals_of is_a);
    bools_have_sentences = All_one (λ (x : Attribute). IsSome x.sentence ↔ (x.kind ≡ kind.Bool)) a (is_saying is_a);
    items_differ = no_pairs (λ i j. i ≢ j);
    contained = no_more;
    containments = one_list is_r;
    over_all = All_one (λ (x : Relation). IsTrue x.every → IsOverAll x) r (λ h. absurd (cc (sym is_r.not_every ∙ h)));
  }

  pub listing_at : (es : List Entity) (xs : List Attribute) (rs : List Relation) (vs : List Verb) (ss : List Screen) (gs : List AttrId)
      → es ≡ e ∷ [] → xs ≡ a ∷ [] → rs ≡ r ∷ [] → vs ≡ [] → ss ≡ [] → gs ≡ []
      → IsModel listing → IsModel (record { entities = es; attributes = xs; relations = rs; verbs = vs; screens = ss; goals = gs })
  listing_at es xs rs vs ss gs es_is xs_is rs_is vs_is ss_is gs_is is =
      let path : record { entities = es; attributes = xs; relations = rs; verbs = vs; screens = ss; goals = gs } ≡ listing = λ i. record { entities = es_is i; attributes = xs_is i; relations = rs_is i; verbs = vs_is i; screens = ss_is i; goals = gs_is i } in
      subst (λ (m : Lists). IsModel m) (sym path) is
