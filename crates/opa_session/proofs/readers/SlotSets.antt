-- The order of slots, and sets of them.
use Rattle.std.proofs.Common.{◌≡◌, ◌⊎◌, ◌↔◌, inl, inr, ℕ, Bool, true, false, cond, List, [], ◌∷◌, length, Result, OnOk, Contains, refl, sym, ◌∙◌, ap, subst, arith}
use Rattle.std.specs.Ordering.{nat_cmp, ordering_then, is_eq}
use Rattle.std.specs.declared.cmp.Ordering.{Ordering}
use Rattle.std.specs.Cmp.{IsTotalOrder, nat_cmp_total, tied_itself}
use Rattle.std.specs.BTreeMap.{is_at}
use Rattle.std.specs.BTreeSet as sorted
use Rattle.std.specs.BTreeSet.{BTreeSet}
use Rattle.std.proofs.lemmas.Cmp.{on_total, then_total}
use Rattle.std.proofs.lemmas.Map.Lookups.{CmpEqualImpliesEq}
use Rattle.std.proofs.lemmas.Map.Views.{tells_apart, btree_set_contains_iff}
use Rattle.opa_io.proofs.Results.{always_on_ok}
use Rattle.opa_model.specs.declared.ids.AttrId.{AttrId}
use Rattle.opa_cells.specs.Instances.{instance_cmp}
use Rattle.opa_cells.specs.declared.instance.InstanceId.{InstanceId}
use Rattle.opa_cells.proofs.Orders.{instance_total, cell_exact}
use Rattle.opa_mean.specs.Reached.Settling.{SamePair}
use Rattle.opa_mean.specs.Reached.Slots.{pairs_of}
use Rattle.opa_mean.specs.declared.reached.slot.Slot.{Slot}
use Rattle.opa_mean.proofs.Everywhere.{in_map}
use Rattle.opa_mean.proofs.Filtered.{map_out}
use Rattle.opa_session.specs.Readers.Indexes.{AddsSlot, TakesSlot, pair_of}

-- by attribute, then by instance
abbrev pub slot_cmp : Slot → Slot → Ordering
slot_cmp s t = ordering_then (nat_cmp s.attr.0 t.attr.0) (instance_cmp s.inst t.inst)

slot_total : IsTotalOrder slot_cmp
slot_total = then_total (on_total (λ (s : Slot). s.attr.0) nat_cmp_total) (on_total (λ (s : Slot). s.inst) instance_total)

slot_exact : CmpEqualImpliesEq slot_cmp
slot_exact s t h =
    ap (λ (p : ℕ × InstanceId). let x : Slot = record { attr = record { 0 = p.0 }; inst = p.1 } in x)
    (cell_exact (s.attr.0, s.inst) (t.attr.0, t.inst) h)

-- the slot of a pair
abbrev of_pair : AttrId × InstanceId → Slot
of_pair x = record { attr = x.0; inst = x.1 }

in_pairs : (xs : List Slot) (x : AttrId × InstanceId) → Contains xs (of_pair x) → Contains (pairs_of xs) x
in_pairs xs x h = in_map (λ (s : Slot). (s.attr, s.inst)) xs (of_pair x) h

out_pairs : (xs : List Slot) (x : AttrId × InstanceId) → Contains (pairs_of xs) x → Contains xs (of_pair x)
out_pairs xs x h = let w = map_out (λ (s : Slot). (s.attr, s.inst)) xs x h in subst (λ (s : Slot). Contains xs s) (ap of_pair w.1.1) w.1.0

module _ (old new : BTreeSet Slot) (s : Slot) where
  has : (m : BTreeSet Slot) (u : Slot) → (sorted.contains slot_cmp m u ≡ true) ↔ Contains m.keys u
  has m u = btree_set_contains_iff slot_total slot_exact m u

  same_pair : (x : AttrId × InstanceId) → is_at (slot_cmp s) (of_pair x) ≡ true → SamePair (pair_of s) x
  same_pair x e = ap (λ (t : Slot). let y : AttrId × InstanceId = (t.attr, t.inst) in y) (tells_apart slot_exact s (of_pair x) e)

  pair_same : (x : AttrId × InstanceId) → SamePair (pair_of s) x → is_at (slot_cmp s) (of_pair x) ≡ true
  pair_same x e = ap is_eq (ap (slot_cmp s) (sym (ap of_pair e)) ∙ tied_itself slot_total s)

  -- a slot is added
  pub set_added : ((q : Slot) → sorted.contains slot_cmp new q ≡ cond (is_at (slot_cmp s) q) true (sorted.contains slot_cmp old q)) → AddsSlot old.keys new.keys (pair_of s)
  set_added adds x = (λ h. out (is_at (slot_cmp s) u) refl (sym (adds u) ∙ (has new u).1 (out_pairs new.keys x h)), λ h. in_pairs new.keys x ((has new u).0 (adds u ∙ into h)))
    where
      u : Slot
      u = of_pair x

      out : (b : Bool) → is_at (slot_cmp s) u ≡ b → cond (is_at (slot_cmp s) u) true (sorted.contains slot_cmp old u) ≡ true → Contains (pairs_of old.keys) x ⊎ SamePair (pair_of s) x
      out true e h = inr (same_pair x e)
      out false e h = inl (in_pairs old.keys x ((has old u).0 (sym (ap (λ b. cond b true (sorted.contains slot_cmp old u)) e) ∙ h)))

      or_true : (b : Bool) → cond b true true ≡ true
      or_true true = refl
      or_true false = refl

      into : Contains (pairs_of old.keys) x ⊎ SamePair (pair_of s) x → cond (is_at (slot_cmp s) u) true (sorted.contains slot_cmp old u) ≡ true
      into (inl h) = ap (cond (is_at (slot_cmp s) u) true) ((has old u).1 (out_pairs old.keys x h)) ∙ or_true (is_at (slot_cmp s) u)
      into (inr e) = ap (λ b. cond b true (sorted.contains slot_cmp old u)) (pair_same x e)

  -- a slot is taken out
  pub set_taken : ((q : Slot) → sorted.contains slot_cmp new q ≡ cond (is_at (slot_cmp s) q) false (sorted.contains slot_cmp old q)) → TakesSlot old.keys new.keys (pair_of s)
  set_taken takes x = (λ h. out (is_at (slot_cmp s) u) refl (sym (takes u) ∙ (has new u).1 (out_pairs new.keys x h)), λ h. in_pairs new.keys x ((has new u).0 (takes u ∙ into (is_at (slot_cmp s) u) refl h)))
    where
      u : Slot
      u = of_pair x

      out : (b : Bool) → is_at (slot_cmp s) u ≡ b → cond (is_at (slot_cmp s) u) false (sorted.contains slot_cmp old u) ≡ true → Contains (pairs_of old.keys) x × (SamePair (pair_of s) x → ⊥)
      out true e h = absurd (cc (h, ap (λ b. cond b false (sorted.contains slot_cmp old u)) e))
      out false e h = (
        in_pairs old.keys x ((has old u).0 (sym (ap (λ b. cond b false (sorted.contains slot_cmp old u)) e) ∙ h)),
        λ same. cc (e, pair_same x same),
      )

      into : (b : Bool) → is_at (slot_cmp s) u ≡ b → Contains (pairs_of old.keys) x × (SamePair (pair_of s) x → ⊥) → cond (is_at (slot_cmp s) u) false (sorted.contains slot_cmp old u) ≡ true
      into true e h = absurd (h.1 (same_pair x e))
      into false e h = ap (λ b. cond b false (sorted.contains slot_cmp old u)) e ∙ (has old u).1 (out_pairs old.keys x h.0)

-- a copy of the slot is added
pub set_added_ok : {T E : Type 0} (o : Result T E) (old new : BTreeSet Slot) (a : AttrId) (i j : InstanceId) → j ≡ i → let s : Slot = record { attr = a; inst = j } in ((q : Slot) → sorted.contains slot_cmp new q ≡ cond (is_at (slot_cmp s) q) true (sorted.contains slot_cmp old q)) → OnOk o (AddsSlot old.keys new.keys (a, i))
set_added_ok o old new a i j same adds = always_on_ok o _ (subst (λ (k : InstanceId). AddsSlot old.keys new.keys (a, k)) same (set_added old new (record { attr = a; inst = j }) adds))

pub no_pairs : (xs : List Slot) → length xs ≡ 0 → pairs_of xs ≡ []
no_pairs [] e = refl
no_pairs (x ∷ xs) e = absurd (omega (arith, e))
