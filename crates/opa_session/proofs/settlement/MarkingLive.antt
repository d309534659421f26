-- Slots of what is live that are added to what waits.
use Rattle.std.proofs.Common.{◌≡◌, ◌⊎◌, inl, inr, false, List, [], ◌∷◌, ◌++◌, Contains, sym, ap, subst}
use Rattle.std.proofs.lemmas.List.Elements.{Contains-append_left, Contains-append_right, Contains-append_cases}
use Rattle.opa_model.specs.declared.ids.AttrId.{AttrId}
use Rattle.opa_cells.specs.declared.instance.InstanceId.{InstanceId}
use Rattle.opa_case.specs.Cases.{CaseView, IsLive}
use Rattle.opa_case.specs.Live.{is_live}
use Rattle.opa_tree.specs.declared.rulebase.Rulebase.{Rulebase}
use Rattle.opa_tree.proofs.Members.{none_in, contains_cases}
use Rattle.opa_mean.specs.Reached.Settling.{SamePair}
use Rattle.opa_mean.specs.Reached.Slots.{pairs_of}
use Rattle.opa_mean.specs.declared.reached.slot.Slot.{Slot}
use Rattle.opa_session.specs.Settlement.Tasks.{slots_of, Marks, MarksLive}
use Rattle.opa_session.specs.declared.settlement.task.Task.{Task}
use Rattle.opa_session.proofs.settlement.Marking.{pairs-append}

module _ (r : Rulebase) (c : CaseView) where
  pub live_start : (tasks : List Task) → MarksLive r c [] tasks tasks
  live_start tasks = record { ranked = λ ranked. ranked; waits = λ a i. (λ h. inl h, λ k. only a i k) }
    where
      only : (a : AttrId) (i : InstanceId) → Contains (slots_of tasks) (a, i) ⊎ (IsLive c i × Contains {X = AttrId × InstanceId} [] (a, i)) → Contains (slots_of tasks) (a, i)
      only a i (inl h) = h
      only a i (inr none) = absurd (none_in (a, i) none.1)

  -- the slot's instance is that of the only slot
  only_slot : (s : Slot) (a : AttrId) (i : InstanceId) → Contains (pairs_of (s ∷ [])) (a, i) → s.inst ≡ i
  only_slot s a i h = go (contains_cases (s.attr, s.inst) (a, i) [] h)
    where
      go : (SamePair (s.attr, s.inst) (a, i)) ⊎ Contains {X = AttrId × InstanceId} [] (a, i) → s.inst ≡ i
      go (inl e) = ap (λ (k : AttrId × InstanceId). k.1) e
      go (inr none) = absurd (none_in (a, i) none)

  pub live_one : (s : Slot) (old new : List Task) → IsLive c s.inst → Marks r (s ∷ []) old new → MarksLive r c (s ∷ []) old new
  live_one s old new live m = record { ranked = m.ranked; waits = λ a i. (λ h. out a i ((m.waits a i).0 h), λ k. into a i k) }
    where
      out : (a : AttrId) (i : InstanceId) → Contains (slots_of old) (a, i) ⊎ Contains (pairs_of (s ∷ [])) (a, i) → Contains (slots_of old) (a, i) ⊎ (IsLive c i × Contains (pairs_of (s ∷ [])) (a, i))
      out a i (inl h) = inl h
      out a i (inr h) = inr (subst (IsLive c) (only_slot s a i h) live, h)

      into : (a : AttrId) (i : InstanceId) → Contains (slots_of old) (a, i) ⊎ (IsLive c i × Contains (pairs_of (s ∷ [])) (a, i)) → Contains (slots_of new) (a, i)
      into a i (inl h) = (m.waits a i).1 (inl h)
      into a i (inr h) = (m.waits a i).1 (inr h.1)

  pub live_none : (s : Slot) (tasks : List Task) → is_live c.live s.inst ≡ false → MarksLive r c (s ∷ []) tasks tasks
  live_none s tasks dead = record { ranked = λ ranked. ranked; waits = λ a i. (λ h. inl h, λ k. only a i k) }
    where
      only : (a : AttrId) (i : InstanceId) → Contains (slots_of tasks) (a, i) ⊎ (IsLive c i × Contains (pairs_of (s ∷ [])) (a, i)) → Contains (slots_of tasks) (a, i)
      only a i (inl h) = h
      only a i (inr h) = absurd (cc (dead, subst (IsLive c) (sym (only_slot s a i h.1)) h.0))

  pub live_both : (xs ys : List Slot) (old mid new : List Task) → MarksLive r c xs old mid → MarksLive r c ys mid new → MarksLive r c (xs ++ ys) old new
  live_both xs ys old mid new m n = record {
    ranked = λ ranked. n.ranked (m.ranked ranked);
    waits = λ a i. (λ h. marks a i ((n.waits a i).0 h), λ k. marked a i k);
  }
    where
      first : (a : AttrId) (i : InstanceId) → Contains (pairs_of xs) (a, i) → Contains (pairs_of (xs ++ ys)) (a, i)
      first a i h = subst (λ ps. Contains ps (a, i)) (sym (pairs-append xs ys)) (Contains-append_left (pairs_of xs) (pairs_of ys) (a, i) h)

      last : (a : AttrId) (i : InstanceId) → Contains (pairs_of ys) (a, i) → Contains (pairs_of (xs ++ ys)) (a, i)
      last a i h = subst (λ ps. Contains ps (a, i)) (sym (pairs-append xs ys)) (Contains-append_right (pairs_of xs) (pairs_of ys) (a, i) h)

      put : (a : AttrId) (i : InstanceId) → IsLive c i → Contains (pairs_of xs) (a, i) ⊎ Contains (pairs_of ys) (a, i) → Contains (slots_of new) (a, i)
      put a i live (inl k) = (n.waits a i).1 (inl ((m.waits a i).1 (inr (live, k))))
      put a i live (inr k) = (n.waits a i).1 (inr (live, k))

      marked : (a : AttrId) (i : InstanceId) → Contains (slots_of old) (a, i) ⊎ (IsLive c i × Contains (pairs_of (xs ++ ys)) (a, i)) → Contains (slots_of new) (a, i)
      marked a i (inl h) = (n.waits a i).1 (inl ((m.waits a i).1 (inl h)))
      marked a i (inr h) = put a i h.0 (Contains-append_cases (pairs_of xs) (pairs_of ys) (a, i) (subst (λ ps. Contains ps (a, i)) (pairs-append xs ys) h.1))

      before : (a : AttrId) (i : InstanceId) → Contains (slots_of old) (a, i) ⊎ (IsLive c i × Contains (pairs_of xs) (a, i)) → Contains (slots_of old) (a, i) ⊎ (IsLive c i × Contains (pairs_of (xs ++ ys)) (a, i))
      before a i (inl k) = inl k
      before a i (inr k) = inr (k.0, first a i k.1)

      marks : (a : AttrId) (i : InstanceId) → Contains (slots_of mid) (a, i) ⊎ (IsLive c i × Contains (pairs_of ys) (a, i)) → Contains (slots_of old) (a, i) ⊎ (IsLive c i × Contains (pairs_of (xs ++ ys)) (a, i))
      marks a i (inr h) = inr (h.0, last a i h.1)
      marks a i (inl h) = before a i ((m.waits a i).0 h)

  -- of a set what the whole makes wait, the rest of it makes wait besides what those behind did
  abbrev pub LiveOnward : List Slot → List Slot → List Task → List Task → Type 0
  LiveOnward all rest old now = (after : List Task) → MarksLive r c rest now after → MarksLive r c all old after

  pub live_next : (all : List Slot) (y : Slot) (rest xs : List Slot) (old mid new : List Task) → xs ≡ y ∷ rest → LiveOnward all xs old mid → MarksLive r c (y ∷ []) mid new → LiveOnward all rest old new
  live_next all y rest xs old mid new is goes m after n = goes after (subst (λ zs. MarksLive r c zs mid after) (sym is) (live_both (y ∷ []) rest mid new after m n))

  pub live_end : (all xs : List Slot) (old new : List Task) → xs ≡ [] → LiveOnward all xs old new → MarksLive r c all old new
  live_end all xs old new none goes = goes new (subst (λ zs. MarksLive r c zs new new) (sym none) (live_start new))
