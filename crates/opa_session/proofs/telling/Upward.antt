-- An instance is added to those that are wanted, with whatever contains it.
use Rattle.std.proofs.Common.{◌≡◌, ◌⊎◌, inl, inr, ℕ, ◌+◌, ◌<◌, Bool, true, false, List, [], ◌∷◌, ◌++◌, length, get_or, take, Option, None, Some, Contains, refl, sym, ◌∙◌, ap, subst}
use Rattle.std.specs.Prelude.{◌||◌, ◌&&◌, ◌≢◌, cond}
use Rattle.std.specs.BTreeMap.{BTreeMap}
use Rattle.std.specs.BTreeMap as tree
use Rattle.std.specs.Cmp.{eq_by_cmp_equiv, nat_cmp_total}
use Rattle.std.specs.Cmp.Lexicographic.{slice_cmp}
use Rattle.std.specs.Option.{option_map_or}
use Rattle.std.specs.Ordering.{nat_cmp, is_eq}
use Rattle.std.proofs.lemmas.Map.Lookups.{exact_unsigned}
use Rattle.std.proofs.lemmas.Map.Views.{tells_apart}
use Rattle.std.proofs.lemmas.List.{take_more}
use Rattle.std.proofs.lemmas.List.Elements.{Contains-append_cases}
use Rattle.std.proofs.lemmas.Bool.{or_right, or_left}
use Rattle.opa_cells.specs.declared.instance.InstanceId.{InstanceId}
use Rattle.opa_cells.specs.Instances.{is_same, is_text, named}
use Rattle.opa_cells.proofs.Orders.{same_is, same_itself}
use Rattle.opa_case.specs.Live.{Population, container_of}
use Rattle.opa_mean.specs.declared.reached.slot.Slot.{Slot}
use Rattle.opa_tree.proofs.Members.{none_in}
use Rattle.opa_cells.proofs.Rowed.{parts}
use Rattle.opa_session.specs.Telling.Wanted.{has_name, has_wanted, AddsUpward, AreWanted, IsClosed, IsClosedBut}
use Rattle.opa_session.specs.declared.telling.wanted.Wanted.{Wanted}
use Rattle.opa_session.proofs.telling.Taking.{only_one}

-- ---- a name is put into the names of its entity

pub inserted : (x : InstanceId) (old left new : Wanted) (names more : BTreeMap (List ℕ) (Unit {0})) → ((n : List ℕ) → has_name names n ≡ has_wanted old (named x.entity.0 n)) → ((i : InstanceId) → i.entity.0 ≢ x.entity.0 → has_wanted left i ≡ has_wanted old i)
    → ((n : List ℕ) → has_name more n ≡ (is_text n x.name || has_name names n)) → ((q : ℕ) → tree.get nat_cmp new.names q ≡ cond (is_eq (nat_cmp x.entity.0 q)) (Some more) (tree.get nat_cmp left.names q)) → (i : InstanceId) → has_wanted new i ≡ (is_same i x || has_wanted old i)
inserted x old left new names more taken others name put i =
    ap (λ o. option_map_or (λ ns. has_name ns i.name) o false) (put i.entity.0)
    ∙ go (is_eq (nat_cmp x.entity.0 i.entity.0)) refl
    ∙ ap (λ b. (b && is_text i.name x.name) || has_wanted old i) ((eq_by_cmp_equiv nat_cmp_total).symm x.entity.0 i.entity.0)
    ∙ ap (λ b. b || has_wanted old i) (sym (parts (nat_cmp i.entity.0 x.entity.0) (slice_cmp nat_cmp i.name x.name)))
  where
    go : (b : Bool) → is_eq (nat_cmp x.entity.0 i.entity.0) ≡ b → option_map_or (λ ns. has_name ns i.name) (cond b (Some more) (tree.get nat_cmp left.names i.entity.0)) false ≡ ((b && is_text i.name x.name) || has_wanted old i)
    go true q = name i.name ∙ ap (λ t. is_text i.name x.name || t) (taken i.name ∙ ap (λ k. has_wanted old (named k i.name)) (tells_apart exact_unsigned x.entity.0 i.entity.0 q))
    go false q = others i (λ e. differs (ap (λ k. is_eq (nat_cmp x.entity.0 k)) e ∙ (eq_by_cmp_equiv nat_cmp_total).refl x.entity.0) q)
      where
        differs : {b : Bool} → b ≡ true → b ≡ false → ⊥
        differs h k = cc (h, k)

module _ (live : Population) where
  pub closed_but : (w : InstanceId → Bool) (x : InstanceId) → IsClosed live w → IsClosedBut live w x
  closed_but w x closed i d h e = inl (closed i d h e)

  -- it was there
  pub upward_there : (w : InstanceId → Bool) (x : InstanceId) → w x ≡ true → IsClosedBut live w x → AddsUpward live w w x
  upward_there w x there closed = record { here = there; more = λ j h. h; closed = λ i d h e. go d (closed i d h e) }
    where
      go : (d : InstanceId) → (w d ≡ true) ⊎ (d ≡ x) → w d ≡ true
      go d (inl h) = h
      go d (inr e) = ap w e ∙ there

  module _ (old new : InstanceId → Bool) (x : InstanceId) (adds : (i : InstanceId) → new i ≡ (is_same i x || old i)) (closed : IsClosedBut live old x) where
    is_here : new x ≡ true
    is_here = adds x ∙ or_left (is_same x x) (old x) (same_itself x)

    stays_in : (j : InstanceId) → old j ≡ true → new j ≡ true
    stays_in j h = adds j ∙ or_right (is_same j x) (old j) h

    -- with the container still to come
    pub upward_on : (c : InstanceId) → container_of live x ≡ Some c → IsClosedBut live new c
    upward_on c at i d h e = go (is_same i x) refl
      where
        first : (w : Option InstanceId) → w ≡ Some c → w ≡ Some d → d ≡ c
        first w p q = cc (p, q)

        before : (old d ≡ true) ⊎ (d ≡ x) → (new d ≡ true) ⊎ (d ≡ c)
        before (inl k) = inl (stays_in d k)
        before (inr k) = inl (ap new k ∙ is_here)

        go : (b : Bool) → is_same i x ≡ b → (new d ≡ true) ⊎ (d ≡ c)
        go true s = inr (first (container_of live x) at (ap (container_of live) (sym (same_is i x s)) ∙ e))
        go false s = before (closed i d (sym (adds i ∙ ap (λ b. b || old i) s) ∙ h) e)

    -- nothing contains it
    pub upward_ends : container_of live x ≡ None → AddsUpward live old new x
    upward_ends none = record { here = is_here; more = stays_in; closed = λ i d h e. go i d h e (is_same i x) refl }
      where
        before : (d : InstanceId) → (old d ≡ true) ⊎ (d ≡ x) → new d ≡ true
        before d (inl k) = stays_in d k
        before d (inr k) = ap new k ∙ is_here

        nowhere : (w : Option InstanceId) (d : InstanceId) → w ≡ None → w ≡ Some d → ⊥
        nowhere w d p q = cc (p, q)

        go : (i d : InstanceId) → new i ≡ true → container_of live i ≡ Some d → (b : Bool) → is_same i x ≡ b → new d ≡ true
        go i d h e true s = absurd (nowhere (container_of live x) d none (ap (container_of live) (sym (same_is i x s)) ∙ e))
        go i d h e false s = before d (closed i d (sym (adds i ∙ ap (λ b. b || old i) s) ∙ h) e)

    -- the container is there too
    pub upward_then : (c : InstanceId) (last : InstanceId → Bool) → AddsUpward live new last c → AddsUpward live old last x
    upward_then c last more = record { here = more.more x is_here; more = λ j h. more.more j (stays_in j h); closed = more.closed }

  -- ---- the instances of slots

  pub wanted_start : (w : InstanceId → Bool) → ((i : InstanceId) → w i ≡ false) → AreWanted live [] w
  wanted_start w none = record { each = λ s h. absurd (none_in s h); closed = λ i d h e. absurd (cc (none i, h)) }

  pub wanted_next : (slots : List Slot) (k : ℕ) (s : Slot) (old new : InstanceId → Bool) → k < length slots → s ≡ get_or slots k s → AreWanted live (take k slots) old → AddsUpward live old new s.inst → AreWanted live (take (k + 1) slots) new
  wanted_next slots k s old new lt is are adds = record {
    each = λ t h. go t (Contains-append_cases (take k slots) (s ∷ []) t (subst (λ xs. Contains xs t) (take_more slots k s lt ∙ ap (λ z. take k slots ++ z ∷ []) (sym is)) h));
    closed = adds.closed;
  }
    where
      go : (t : Slot) → Contains (take k slots) t ⊎ Contains (s ∷ []) t → new t.inst ≡ true
      go t (inl h) = adds.more t.inst (are.each t h)
      go t (inr h) = ap (λ (z : Slot). new z.inst) (sym (only_one s t h)) ∙ adds.here
