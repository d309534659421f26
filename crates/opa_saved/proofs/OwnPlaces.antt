-- A declared phrase names what it is declared of, and what is live is among the instances of its entity.
use Rattle.std.proofs.Common.{◌≡◌, ◌≢◌, ◌≤◌, ◌<◌, ◌-◌, ℕ, Bool, true, false, List, [], ◌∷◌, length, arith, refl, sym, ap, subst, ◌∙◌}
use Rattle.std.specs.Prelude.{Some, ◌||◌}
use Rattle.std.specs.List.{list_any, list_all}
use Rattle.std.proofs.lemmas.Bool.{and_parts}
use mathlib.Core.Bool.{true≢false}
use Rattle.opa_model.specs.declared.ids.AttrId.{AttrId}
use Rattle.opa_model.specs.declared.ids.RelId.{RelId}
use Rattle.opa_model.specs.declared.lists.Lists.{Lists}
use Rattle.opa_model.specs.Lookups.{attribute_named, relation_named}
use Rattle.opa_model.specs.Models.{IsModel}
use Rattle.opa_cells.specs.declared.instance.InstanceId.{InstanceId}
use Rattle.opa_cells.specs.Instances.{is_same, is_text, global}
use Rattle.opa_cells.proofs.Orders.{same_is}
use Rattle.opa_case.specs.Shapes.{Shape, IsShape, attribute_or, relation_or}
use Rattle.opa_case.specs.Live.{Names, Lists as Known, live_of, is_live, members}
use Rattle.opa_case.specs.Clean.{is_clean_text}
use Rattle.opa_case.proofs.Among.{live_by_lists}
use Rattle.opa_case.proofs.Stands.{in_members, lookup_found, in_upto, text_is}
use Rattle.opa_text.proofs.OwnPhrases.{own_attribute, own_relation}
use Rattle.opa_saved.specs.Saved.{attr, rel}
use Rattle.opa_saved.proofs.Distinct.{among}

-- ---- phrases

module _ (m : Lists) (im : IsModel m) where
  -- no two have one phrase
  pub attributes_apart : (n k : ℕ) → n < k → k < length m.attributes → (attribute_or m (attr n)).phrase ≢ (attribute_or m (attr k)).phrase
  attributes_apart n k lt within e = later n k lt (ap (λ (a : AttrId). a.0) (some_of (attr n) (attr k) (sym (own_attribute m im (attr n) (omega (arith, lt, within))) ∙ ap (attribute_named m) e ∙ own_attribute m im (attr k) within)))
    where
      some_of : (a b : AttrId) → Some a ≡ Some b → a ≡ b
      some_of a b e = cc e

      later : (a b : ℕ) → a < b → a ≡ b → ⊥
      later a b l e = omega (arith, l, e)

  pub relations_apart : (n k : ℕ) → n < k → k < length m.relations → (relation_or m (rel n)).phrase ≢ (relation_or m (rel k)).phrase
  relations_apart n k lt within e = later n k lt (ap (λ (r : RelId). r.0) (some_of (rel n) (rel k) (sym (own_relation m im (rel n) (omega (arith, lt, within))) ∙ ap (relation_named m) e ∙ own_relation m im (rel k) within)))
    where
      some_of : (a b : RelId) → Some a ≡ Some b → a ≡ b
      some_of a b e = cc e

      later : (a b : ℕ) → a < b → a ≡ b → ⊥
      later a b l e = omega (arith, l, e)

-- ---- what is live

-- what all names have, one that stands among them has
pub all_at : (p : List ℕ → Bool) (n : List ℕ) (ns : Names) → list_all p ns ≡ true → list_any (is_text n) ns ≡ true → p n ≡ true
all_at p n [] h g = absurd (true≢false (sym g))
all_at p n (k ∷ ks) h g =
    let a = and_parts (p k) (list_all p ks) h in
    elim (is_text n k) as (λ b. is_text n k ≡ b → (b || list_any (is_text n) ks) ≡ true → p n ≡ true) [
      | true ↦ λ e _. ap p (text_is n k e) ∙ a.0
      | false ↦ λ _ r. all_at p n ks a.1 r
    ] refl g

module _ (s : Shape) (shape : IsShape s) (l : Known) where
  other_live : (i : InstanceId) → is_same i global ≡ false → is_live (live_of s l) i ≡ true → (0 < i.entity.0) × (i.entity.0 < s.count)
  other_live i other h =
      let f = lookup_found (is_same i) (live_of s l) (elim (is_same i global) as (λ b. b ≡ false → (b || list_any (λ p. is_same i p.0) (live_of s l)) ≡ true → list_any (λ p. is_same i p.0) (live_of s l) ≡ true) [ true ↦ λ e _. absurd (true≢false e) | false ↦ λ _ g. g ] other h) in
      let r = in_upto s l (s.count - 1) i f.0 f.1 in
      (r.0, omega (arith, r.0, r.1))

  within : (i : InstanceId) → is_live (live_of s l) i ≡ true → i.entity.0 ≤ s.count - 1
  within i h = elim (is_same i global) as (λ b. is_same i global ≡ b → i.entity.0 ≤ s.count - 1) [
    | true ↦ λ e. let zero_is : i.entity.0 ≡ 0 = ap (λ (j : InstanceId). j.entity.0) (same_is i global e) in omega (arith, zero_is)
    | false ↦ λ e. let b = other_live i e h in omega (arith, b.1)
  ] refl

  -- it is among the instances of its entity
  pub live_member : (e : ℕ) (i : InstanceId) → i.entity.0 ≡ e → is_live (live_of s l) i ≡ true → among i (members e (live_of s l)) ≡ true
  live_member e i own h = subst (λ x. among i (members x (live_of s l)) ≡ true) own (in_members s l (s.count - 1) (s.count - 1) i (omega arith) (within i h) h)

  -- where the lists' names are clean, the names of what is live are
  pub clean_live : ((r : RelId) (i : InstanceId) (ns : Names) → l r i ≡ Some ns → list_all is_clean_text ns ≡ true) → (i : InstanceId) → is_live (live_of s l) i ≡ true → is_clean_text i.name ≡ true
  clean_live clear i h = elim (is_same i global) as (λ b. is_same i global ≡ b → is_clean_text i.name ≡ true) [
    | true ↦ λ e. ap (λ (j : InstanceId). is_clean_text j.name) (same_is i global e)
    | false ↦ λ e.
        let b = other_live i e h in
        let st = (live_by_lists s shape l i.entity.0 i.name b.0 b.1).0 h in
        all_at is_clean_text i.name st.names (clear (s.contained i.entity.0) st.container st.names st.known) st.listed
  ] refl
