-- What a model declares has the form of a shape.
use Rattle.std.specs.Prelude.{◌≡◌, ◌<◌, ◌≤◌, ◌≢◌, ℕ, zero, suc, true, false, Option, None, Some, IsTrue, length, slice_get, slice_index_or, unwrap_or, refl}
use Rattle.std.proofs.Common.{arith, ap, sym, subst, ◌∙◌, ◌⊎◌, inl, inr}
use Rattle.std.proofs.lemmas.Option.{slice_get-get_or}
use mathlib.Core.Bool.{true≢false}
use Rattle.opa_io.proofs.Places.{All_at}
use Rattle.opa_model.specs.declared.ids.AttrId.{AttrId}
use Rattle.opa_model.specs.declared.ids.RelId.{RelId}
use Rattle.opa_model.specs.declared.lists.Lists.{Lists}
use Rattle.opa_model.specs.declared.things.Attribute.{Attribute}
use Rattle.opa_model.specs.declared.things.Entity.{Entity}
use Rattle.opa_model.specs.declared.things.Kind.TheVariants as kinds
use Rattle.opa_model.specs.declared.things.Relation.{Relation}
use Rattle.opa_model.specs.Lookups.{entity_at, relation_at, attribute_at}
use Rattle.opa_model.specs.Models.{IsModel, IsContained, IsContainment, IsOverAll, HasDecimals}
use Rattle.opa_case.specs.Shapes.{IsShape, shape_of, entity_or, relation_or, attribute_or, no_entity, no_relation, no_attribute}

found : {X : Type 0} (o : Option X) (d x : X) → o ≡ Some x → unwrap_or o d ≡ x
found o d x e = ap (λ p. unwrap_or p d) e

module _ (m : Lists) (is : IsModel m) where
  -- an entity in range is declared
  entity_in : (e : ℕ) → e < length m.entities → (x : Entity) × (slice_get m.entities e ≡ Some x) × (entity_or m e ≡ x)
  entity_in e lt = let at = slice_get-get_or m.entities e no_entity lt in (slice_index_or m.entities e no_entity, at, found (slice_get m.entities e) no_entity _ at)

  -- a relation is declared, or stands for none
  relation_in : (r : RelId) → ((x : Relation) × (slice_get m.relations r.0 ≡ Some x) × (relation_or m r ≡ x)) ⊎ (relation_or m r ≡ no_relation)
  relation_in r = go (slice_get m.relations r.0) refl
    where
      go : (o : Option Relation) → slice_get m.relations r.0 ≡ o → ((x : Relation) × (slice_get m.relations r.0 ≡ Some x) × (relation_or m r ≡ x)) ⊎ (relation_or m r ≡ no_relation)
      go None e = inr (ap (λ p. unwrap_or p no_relation) e)
      go (Some x) e = inl (x, e, ap (λ p. unwrap_or p no_relation) e)

  contained_by : (e : ℕ) → 0 < e → e < length m.entities → (x : Entity) × (entity_or m e ≡ x) × IsContained m e x
  contained_by e pos lt = let f = entity_in e lt in (f.0, f.2, is.contained e f.0 pos f.1)

  related : (e : ℕ) (x : Entity) (c : IsContained m e x) → entity_or m e ≡ x → relation_or m (entity_or m e).contained ≡ c.relation
  related e x c at = ap (λ (y : Entity). relation_or m y.contained) at ∙ found (relation_at m x.contained) no_relation c.relation c.by_it

  containment : (r : RelId) → (relation_or m r).contains ≡ true → (x : Relation) × (relation_or m r ≡ x) × IsContainment m r.0 x
  containment r h = go (relation_in r)
    where
      go : ((x : Relation) × (slice_get m.relations r.0 ≡ Some x) × (relation_or m r ≡ x)) ⊎ (relation_or m r ≡ no_relation) → (x : Relation) × (relation_or m r ≡ x) × IsContainment m r.0 x
      go (inl f) = (f.0, f.2, is.containments r.0 f.0 f.1 (ap (λ (y : Relation). y.contains) (sym f.2) ∙ h))
      go (inr e) = absurd (true≢false (sym h ∙ ap (λ (y : Relation). y.contains) e))

  target_inside : (r : RelId) → (relation_or m r).target.0 < length m.entities
  target_inside r = go (relation_in r)
    where
      go : ((x : Relation) × (slice_get m.relations r.0 ≡ Some x) × (relation_or m r ≡ x)) ⊎ (relation_or m r ≡ no_relation) → (relation_or m r).target.0 < length m.entities
      go (inl f) = subst (λ (y : Relation). y.target.0 < length m.entities) (sym f.2) (All_at (λ (y : Relation). y.target.0 < length m.entities) m.relations r.0 f.0 f.1 is.in_range.targets)
      go (inr e) = subst (λ (y : Relation). y.target.0 < length m.entities) (sym e) is.has_global

  by_contained : (r : RelId) → (relation_or m r).contains ≡ true → r ≡ (entity_or m (relation_or m r).target.0).contained
  by_contained r h =
      let f = containment r h in
      let c = f.2 in
      let at : entity_or m (relation_or m r).target.0 ≡ c.target = ap (λ (y : Relation). entity_or m y.target.0) f.1 ∙ found (entity_at m f.0.target) no_entity c.target c.at_it in
      ap (λ n. let q : RelId = record { 0 = n } in q) (sym c.by_it) ∙ ap (λ (y : Entity). y.contained) (sym at)

  pub shape_is : IsShape (shape_of m)
  shape_is = record {
    some = is.has_global;
    earlier = λ e pos lt. let f = contained_by e pos lt in subst (λ (y : Entity). y.parent.0 < e) (sym f.1) f.2.earlier;
    contains = λ e pos lt. let f = contained_by e pos lt in ap (λ (y : Relation). y.contains) (related e f.0 f.2 f.1) ∙ f.2.contains;
    target = λ e pos lt. let f = contained_by e pos lt in ap (λ (y : Relation). y.target.0) (related e f.0 f.2 f.1) ∙ f.2.to_it;
    source = λ e pos lt. let f = contained_by e pos lt in ap (λ (y : Relation). y.source.0) (related e f.0 f.2 f.1) ∙ ap (λ p. p.0) f.2.from_parent ∙ ap (λ (y : Entity). y.parent.0) (sym f.1);
    no_other = by_contained;
    target_in = λ r h. let f = containment r h in (subst (λ (y : Relation). 0 < y.target.0) (sym f.1) f.2.not_the_first, target_inside r);
    inside = target_inside;
    to_many = λ r h.
        let t = containment r h in
        let pos : 0 < (relation_or m r).target.0 = subst (λ (y : Relation). 0 < y.target.0) (sym t.1) t.2.not_the_first in
        let f = contained_by (relation_or m r).target.0 pos (target_inside r) in
        ap (λ (q : RelId). (relation_or m q).one) (by_contained r h) ∙ ap (λ (y : Relation). y.one) (related (relation_or m r).target.0 f.0 f.2 f.1) ∙ f.2.to_many;
    every = λ r h. everywhere r h (relation_in r);
    over_another = λ r h. another r h (relation_in r);
    currency = λ a h. money a h (attribute_at m a) refl;
  }
    where
      everywhere : (r : RelId) → (relation_or m r).every ≡ true → ((x : Relation) × (slice_get m.relations r.0 ≡ Some x) × (relation_or m r ≡ x)) ⊎ (relation_or m r ≡ no_relation) → (relation_or m r).contains ≡ false
      everywhere r h (inl f) = ap (λ (y : Relation). y.contains) f.2 ∙ (All_at (λ (q : Relation). IsTrue q.every → IsOverAll q) m.relations r.0 f.0 f.1 is.over_all (ap (λ (y : Relation). y.every) (sym f.2) ∙ h)).contains_none
      everywhere r h (inr e) = ap (λ (y : Relation). y.contains) e

      above : (n : ℕ) → n ≢ 0 → 0 < n
      above zero other = absurd (other refl)
      above (suc n) other = omega arith

      another : (r : RelId) → (relation_or m r).every ≡ true → ((x : Relation) × (slice_get m.relations r.0 ≡ Some x) × (relation_or m r ≡ x)) ⊎ (relation_or m r ≡ no_relation) → 0 < (relation_or m r).target.0
      another r h (inl f) = subst (λ (y : Relation). 0 < y.target.0) (sym f.2) (above f.0.target.0 (All_at (λ (q : Relation). IsTrue q.every → IsOverAll q) m.relations r.0 f.0 f.1 is.over_all (ap (λ (y : Relation). y.every) (sym f.2) ∙ h)).to_another)
      another r h (inr e) = absurd (true≢false (sym h ∙ ap (λ (y : Relation). y.every) e))

      money : (a : AttrId) → (attribute_or m a).kind ≡ kinds.Currency → (o : Option Attribute) → attribute_at m a ≡ o → (attribute_or m a).decimals ≤ 2
      money a h None e = let none : attribute_or m a ≡ no_attribute = ap (λ p. unwrap_or p no_attribute) e in absurd (cc (ap (λ (y : Attribute). y.kind) (sym none) ∙ h))
      money a h (Some x) e =
          let at : attribute_or m a ≡ x = ap (λ p. unwrap_or p no_attribute) e in
          subst (λ (y : Attribute). y.decimals ≤ 2) (sym at) ((All_at HasDecimals m.attributes a.0 x e is.decimals).of_currency (ap (λ (y : Attribute). y.kind) (sym at) ∙ h))
