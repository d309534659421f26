-- One slot more at a key.
use Rattle.std.proofs.Common.{◌≡◌, ◌⊎◌, ◌↔◌, inl, inr, ℕ, Bool, true, false, cond, [], Option, None, Some, Contains, refl, sym, ◌∙◌, ap, subst}
use Rattle.std.specs.BTreeSet.{BTreeSet}
use Rattle.std.specs.FinMap.{get, insert, get-insert}
use Rattle.std.specs.Ordering.{eq_by_cmp}
use Rattle.std.specs.Cmp.{eq_by_cmp_equiv}
use Rattle.std.proofs.lemmas.Map.Views.{tells_apart}
use Rattle.opa_model.specs.declared.ids.AttrId.{AttrId}
use Rattle.opa_cells.specs.Keys.{cell_cmp}
use Rattle.opa_cells.specs.declared.instance.InstanceId.{InstanceId}
use Rattle.opa_cells.proofs.Orders.{cell_exact, cell_total}
use Rattle.opa_mean.specs.Reached.Settling.{SamePair}
use Rattle.opa_mean.specs.Reached.Slots.{pairs_of, slots_in}
use Rattle.opa_mean.specs.declared.reached.slot.Slot.{Slot}
use Rattle.opa_session.specs.Readers.Indexes.{Table, slots_at, SameKey, AddsSlot, AddsAt}

-- what is set at a key
pub adds_at : (m : Table) (k : ℕ × InstanceId) (v : BTreeSet Slot) (s : AttrId × InstanceId) → AddsSlot (slots_in (get m k)) v.keys s → AddsAt m (insert m k v) k s
adds_at m k v s h j x = go (eq_by_cmp cell_cmp j k) refl
  where
    at : (t : Bool) → eq_by_cmp cell_cmp j k ≡ t → slots_at (insert m k v) j ≡ pairs_of (slots_in (cond t (Some v) (get m j)))
    at t e = ap (λ (o : Option (BTreeSet Slot)). pairs_of (slots_in o)) (get-insert cell_total m k v j ∙ ap (λ b. cond b (Some v) (get m j)) e)

    go : (t : Bool) → eq_by_cmp cell_cmp j k ≡ t → Contains (slots_at (insert m k v) j) x ↔ (Contains (slots_at m j) x ⊎ (SameKey k j × SamePair s x))
    go true e = (
      λ c. forth ((h x).0 (subst (λ ys. Contains ys x) (at true e) c)),
      λ c. subst (λ ys. Contains ys x) (sym (at true e)) ((h x).1 (back c)),
    )
      where
        same : SameKey k j
        same = sym (tells_apart cell_exact j k e)

        forth : Contains (slots_at m k) x ⊎ SamePair s x → Contains (slots_at m j) x ⊎ (SameKey k j × SamePair s x)
        forth (inl c) = inl (subst (λ (y : ℕ × InstanceId). Contains (slots_at m y) x) same c)
        forth (inr p) = inr (same, p)

        back : Contains (slots_at m j) x ⊎ (SameKey k j × SamePair s x) → Contains (slots_at m k) x ⊎ SamePair s x
        back (inl c) = inl (subst (λ (y : ℕ × InstanceId). Contains (slots_at m y) x) (sym same) c)
        back (inr p) = inr p.1
    go false e = (
      λ c. inl (subst (λ ys. Contains ys x) (at false e) c),
      λ c. subst (λ ys. Contains ys x) (sym (at false e)) (back c),
    )
      where
        back : Contains (slots_at m j) x ⊎ (SameKey k j × SamePair s x) → Contains (slots_at m j) x
        back (inl c) = c
        back (inr p) = absurd (cc (e, ap (λ (y : ℕ × InstanceId). eq_by_cmp cell_cmp y k) (sym p.0), (eq_by_cmp_equiv cell_total).refl k))

pub put_there : (m new : Table) (k : ℕ × InstanceId) (old slots : BTreeSet Slot) (s : AttrId × InstanceId) → get m k ≡ Some old → new ≡ insert m k slots → AddsSlot old.keys slots.keys s → AddsAt m new k s
put_there m new k old slots s at is adds =
    subst (λ (t : Table). AddsAt m t k s) (sym is) (adds_at m k slots s (subst (λ (o : Option (BTreeSet Slot)). AddsSlot (slots_in o) slots.keys s) (sym at) adds))

pub put_first : (m new : Table) (k k' : ℕ × InstanceId) (slots : BTreeSet Slot) (s : AttrId × InstanceId) → get m k ≡ None → k' ≡ k → new ≡ insert m k' slots → AddsSlot [] slots.keys s → AddsAt m new k s
put_first m new k k' slots s none key is adds =
    subst (λ (t : Table). AddsAt m t k s) (sym (is ∙ ap (λ (y : ℕ × InstanceId). insert m y slots) key))
    (adds_at m k slots s (subst (λ (o : Option (BTreeSet Slot)). AddsSlot (slots_in o) slots.keys s) (sym none) adds))
