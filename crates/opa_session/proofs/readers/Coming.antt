-- What waits at first where one list is set or forgotten.
use Rattle.std.proofs.Common.{◌≡◌, ◌⊎◌, ◌↔◌, inl, inr, ℕ, ◌+◌, ◌<◌, Bool, true, false, cond, List, [], ◌∷◌, ◌++◌, length, get_or, take, Contains, None, Some, is_some, refl, sym, ◌∙◌, ap, subst}
use Rattle.std.specs.Prelude.{◌||◌, ◌&&◌, ◌==◌}
use Rattle.std.specs.List.{list_any}
use Rattle.std.proofs.lemmas.Bool.{and_parts, eqb-true, and_from}
use Rattle.std.proofs.lemmas.List.{take_more}
use Rattle.std.proofs.lemmas.List.Elements.{Contains-append_left, Contains-append_right, Contains-append_cases}
use Rattle.opa_model.specs.declared.ids.AttrId.{AttrId}
use Rattle.opa_cells.specs.Instances.{is_same, global}
use Rattle.opa_cells.specs.declared.instance.InstanceId.{InstanceId}
use Rattle.opa_cells.proofs.Orders.{same_is, same_itself}
use Rattle.opa_case.specs.Cases.{CaseView, IsLive}
use Rattle.opa_case.specs.Live.{Population, is_live, container_of}
use Rattle.opa_case.specs.Shapes.{shape_of}
use Rattle.opa_case.specs.Turns.{Turns, is_among}
use Rattle.opa_case.specs.declared.question.Question.{Question}
use Rattle.opa_case.proofs.Lively.{some_in}
use Rattle.opa_case.proofs.Taken.{more_of}
use Rattle.opa_tree.specs.declared.rulebase.Rulebase.{Rulebase}
use Rattle.opa_tree.specs.Rules.{rule_of}
use Rattle.opa_tree.proofs.Members.{none_in, contains_head, contains_cases}
use Rattle.opa_mean.specs.Places.{owner_of}
use Rattle.opa_mean.specs.Slots.{is_slot}
use Rattle.opa_mean.specs.Reached.ByLists.{IsByLists, AreListsTold, ReadsTold}
use Rattle.opa_mean.specs.Reached.Settling.{AreReaders, IsBegun, SamePair, Shift, Waiting}
use Rattle.opa_mean.specs.Reached.Slots.{pairs_of}
use Rattle.opa_mean.specs.declared.reached.slot.Slot.{Slot}
use Rattle.opa_mean.proofs.reached.ListsBegin.{lists_begin}
use Rattle.opa_mean.proofs.reached.Parted.{parts_of, slot_is}
use Rattle.opa_mean.proofs.reached.Staging.{still_slot}
use Rattle.opa_session.specs.Settlement.Tasks.{AreRanked, Marks, MarksLive, slots_of}
use Rattle.opa_session.specs.declared.settlement.task.Task.{Task}
use Rattle.opa_session.specs.Store.Drops.{has_slot}
use Rattle.opa_session.specs.Store.Owners.{ruled_of}
use Rattle.opa_session.proofs.store.Owning.{in_ruled}
use Rattle.opa_session.specs.Readers.Waits.{WaitsBesides, IsOwnSlot, IsOwnSlotAmong, IsThisSlot, IsSlotOfOne, IsLiveReader}

module _ (r : Rulebase) where
  -- ---- any slots

  pub waits_none : (those : AttrId → InstanceId → Type 0) → ((a : AttrId) (i : InstanceId) → those a i → ⊥) → (tasks : List Task) → WaitsBesides r those tasks tasks
  waits_none those never tasks = record { ranked = λ ranked. ranked; waits = λ a i. (λ h. inl h, λ k. only a i k) }
    where
      only : (a : AttrId) (i : InstanceId) → Contains (slots_of tasks) (a, i) ⊎ those a i → Contains (slots_of tasks) (a, i)
      only a i (inl h) = h
      only a i (inr h) = absurd (never a i h)

  pub waits_both : (first then both : AttrId → InstanceId → Type 0) (old mid new : List Task) → WaitsBesides r first old mid → WaitsBesides r then mid new → ((a : AttrId) (i : InstanceId) → both a i ↔ (first a i ⊎ then a i)) → WaitsBesides r both old new
  waits_both first then both old mid new m n same = record {
    ranked = λ ranked. n.ranked (m.ranked ranked);
    waits = λ a i. (λ h. out a i ((n.waits a i).0 h), λ k. into a i k);
  }
    where
      before : (a : AttrId) (i : InstanceId) → Contains (slots_of old) (a, i) ⊎ first a i → Contains (slots_of old) (a, i) ⊎ both a i
      before a i (inl h) = inl h
      before a i (inr h) = inr ((same a i).1 (inl h))

      out : (a : AttrId) (i : InstanceId) → Contains (slots_of mid) (a, i) ⊎ then a i → Contains (slots_of old) (a, i) ⊎ both a i
      out a i (inl h) = before a i ((m.waits a i).0 h)
      out a i (inr h) = inr ((same a i).1 (inr h))

      put : (a : AttrId) (i : InstanceId) → first a i ⊎ then a i → Contains (slots_of new) (a, i)
      put a i (inl h) = (n.waits a i).1 (inl ((m.waits a i).1 (inr h)))
      put a i (inr h) = (n.waits a i).1 (inr h)

      into : (a : AttrId) (i : InstanceId) → Contains (slots_of old) (a, i) ⊎ both a i → Contains (slots_of new) (a, i)
      into a i (inl h) = (n.waits a i).1 (inl ((m.waits a i).1 (inl h)))
      into a i (inr h) = put a i ((same a i).0 h)

  pub waits_as : (those these : AttrId → InstanceId → Type 0) (old new : List Task) → WaitsBesides r those old new → ((a : AttrId) (i : InstanceId) → these a i ↔ those a i) → WaitsBesides r these old new
  waits_as those these old new m same = record { ranked = m.ranked; waits = λ a i. (λ h. out a i ((m.waits a i).0 h), λ k. (m.waits a i).1 (into a i k)) }
    where
      out : (a : AttrId) (i : InstanceId) → Contains (slots_of old) (a, i) ⊎ those a i → Contains (slots_of old) (a, i) ⊎ these a i
      out a i (inl h) = inl h
      out a i (inr h) = inr ((same a i).1 h)

      into : (a : AttrId) (i : InstanceId) → Contains (slots_of old) (a, i) ⊎ these a i → Contains (slots_of old) (a, i) ⊎ those a i
      into a i (inl h) = inl h
      into a i (inr h) = inr ((same a i).0 h)

  -- ---- one slot

  module _ (b : AttrId) (j : InstanceId) where
    pub slot_waits : (i : InstanceId) (old new : List Task) → i ≡ j → has_slot r b j ≡ true → Marks r (record { attr = b; inst = i } ∷ []) old new → WaitsBesides r (IsThisSlot r b j) old new
    slot_waits i old new at has m = record { ranked = m.ranked; waits = λ a k. (λ h. out a k ((m.waits a k).0 h), λ h. (m.waits a k).1 (into a k h)) }
      where
        slot : Slot
        slot = record { attr = b; inst = i }

        this : (a : AttrId) (k : InstanceId) → SamePair (b, i) (a, k) ⊎ Contains {X = AttrId × InstanceId} [] (a, k) → IsThisSlot r b j a k
        this a k (inl e) =
            let attrs : b ≡ a = ap (λ (x : AttrId × InstanceId). x.0) e in
            let insts : k ≡ j = sym (ap (λ (x : AttrId × InstanceId). x.1) e) ∙ at in
            (attrs, (ap (λ (x : InstanceId). is_same x j) insts ∙ same_itself j, ap (λ (x : InstanceId). has_slot r a x) insts ∙ ap (λ (x : AttrId). has_slot r x j) (sym attrs) ∙ has))
        this a k (inr none) = absurd (none_in (a, k) none)

        out : (a : AttrId) (k : InstanceId) → Contains (slots_of old) (a, k) ⊎ Contains (pairs_of (record { attr = b; inst = i } ∷ [])) (a, k) → Contains (slots_of old) (a, k) ⊎ IsThisSlot r b j a k
        out a k (inl h) = inl h
        out a k (inr h) = inr (this a k (contains_cases (b, i) (a, k) [] h))

        into : (a : AttrId) (k : InstanceId) → Contains (slots_of old) (a, k) ⊎ IsThisSlot r b j a k → Contains (slots_of old) (a, k) ⊎ Contains (pairs_of (record { attr = b; inst = i } ∷ [])) (a, k)
        into a k (inl h) = inl h
        into a k (inr h) =
            let insts : i ≡ k = at ∙ sym (same_is k j h.1.0) in
            let pair : SamePair (b, i) (a, k) = λ t. (h.0 t, insts t) in
            inr (subst (λ (x : AttrId × InstanceId). Contains ((b, i) ∷ []) x) pair (contains_head (b, i) []))

    pub no_slot_waits : (tasks : List Task) → has_slot r b j ≡ false → WaitsBesides r (IsThisSlot r b j) tasks tasks
    no_slot_waits tasks none = waits_none (IsThisSlot r b j) (λ a k h. cc (none, ap (λ (x : AttrId). has_slot r x j) h.0, ap (λ (x : InstanceId). has_slot r a x) (same_is k j h.1.0), h.1.1)) tasks

  -- ---- the slots of an instance, attribute after attribute

  module _ (j : InstanceId) where
    pub own_none : (tasks : List Task) → WaitsBesides r (IsOwnSlotAmong r j []) tasks tasks
    own_none tasks = waits_none (IsOwnSlotAmong r j []) (λ a i h. none_in a h.0) tasks

    pub own_next : (attrs : List AttrId) (k : ℕ) (d : AttrId) (old mid new : List Task) → k < length attrs → WaitsBesides r (IsOwnSlotAmong r j (take k attrs)) old mid → WaitsBesides r (IsThisSlot r (get_or attrs k d) j) mid new → WaitsBesides r (IsOwnSlotAmong r j (take (k + 1) attrs)) old new
    own_next attrs k d old mid new lt m n = waits_both (IsOwnSlotAmong r j (take k attrs)) (IsThisSlot r b j) (IsOwnSlotAmong r j (take (k + 1) attrs)) old mid new m n (λ a i. (out a i, into a i))
      where
        b : AttrId
        b = get_or attrs k d

        more : take (k + 1) attrs ≡ take k attrs ++ b ∷ []
        more = take_more attrs k d lt

        out : (a : AttrId) (i : InstanceId) → IsOwnSlotAmong r j (take (k + 1) attrs) a i → IsOwnSlotAmong r j (take k attrs) a i ⊎ IsThisSlot r b j a i
        out a i h = go (Contains-append_cases (take k attrs) (b ∷ []) a (subst (λ (xs : List AttrId). Contains xs a) more h.0))
          where
            last : (b ≡ a) ⊎ Contains [] a → IsOwnSlotAmong r j (take k attrs) a i ⊎ IsThisSlot r b j a i
            last (inl e) = inr (e, h.1)
            last (inr none) = absurd (none_in a none)

            go : Contains (take k attrs) a ⊎ Contains (b ∷ []) a → IsOwnSlotAmong r j (take k attrs) a i ⊎ IsThisSlot r b j a i
            go (inl there) = inl (there, h.1)
            go (inr there) = last (contains_cases b a [] there)

        into : (a : AttrId) (i : InstanceId) → IsOwnSlotAmong r j (take k attrs) a i ⊎ IsThisSlot r b j a i → IsOwnSlotAmong r j (take (k + 1) attrs) a i
        into a i (inl h) = (subst (λ (xs : List AttrId). Contains xs a) (sym more) (Contains-append_left (take k attrs) (b ∷ []) a h.0), h.1)
        into a i (inr h) = (subst (λ (xs : List AttrId). Contains xs a) (sym more) (Contains-append_right (take k attrs) (b ∷ []) a (subst (λ (x : AttrId). Contains (b ∷ []) x) h.0 (contains_head b []))), h.1)

    -- each slot of the instance is of its entity's attributes
    pub own_all : (attrs : List AttrId) (e : ℕ) (old new : List Task) → attrs ≡ ruled_of r e → e ≡ j.entity.0 → WaitsBesides r (IsOwnSlotAmong r j attrs) old new → WaitsBesides r (IsOwnSlot r j) old new
    own_all attrs e old new are at m = waits_as (IsOwnSlotAmong r j attrs) (IsOwnSlot r j) old new m (λ a i. (λ h. into a i h, λ h. h.1))
      where
        into : (a : AttrId) (i : InstanceId) → IsOwnSlot r j a i → IsOwnSlotAmong r j attrs a i
        into a i h =
            let two = and_parts (i.entity.0 == owner_of (shape_of r.model) a) (is_some (rule_of r.rules a)) h.1 in
            let owner : e ≡ owner_of (shape_of r.model) a = at ∙ ap (λ (x : InstanceId). x.entity.0) (sym (same_is i j h.0)) ∙ eqb-true i.entity.0 (owner_of (shape_of r.model) a) two.0 in
            (subst (λ (xs : List AttrId). Contains xs a) (sym are) (in_ruled (shape_of r.model) e a r.rules owner two.1), h)

  -- ---- the slots of what comes, one instance after another

  pub came_none : (tasks : List Task) → WaitsBesides r (IsSlotOfOne r []) tasks tasks
  came_none tasks = waits_none (IsSlotOfOne r []) (λ a i h. cc h.0) tasks

  pub came_next : (came : Population) (k : ℕ) (x : InstanceId × InstanceId) (old mid new : List Task) → k < length came → x ≡ get_or came k x → WaitsBesides r (IsSlotOfOne r (take k came)) old mid → WaitsBesides r (IsOwnSlot r x.0) mid new → WaitsBesides r (IsSlotOfOne r (take (k + 1) came)) old new
  came_next came k x old mid new lt is m n = waits_both (IsSlotOfOne r (take k came)) (IsOwnSlot r x.0) (IsSlotOfOne r (take (k + 1) came)) old mid new m n (λ a i. (out a i, into a i))
    where
      more : (i : InstanceId) → (is_among (take k came) i || is_same i x.0) ≡ is_among (take (k + 1) came) i
      more i = more_of true (λ (p : InstanceId × InstanceId). is_same i p.0) came k x lt is

      either : (b c : Bool) → (b || c) ≡ true → (b ≡ true) ⊎ (c ≡ true)
      either true c h = inl refl
      either false c h = inr h

      or_left : (b c : Bool) → b ≡ true → (b || c) ≡ true
      or_left true c h = refl
      or_left false c h = absurd (cc h)

      or_right : (b c : Bool) → c ≡ true → (b || c) ≡ true
      or_right true c h = refl
      or_right false c h = h

      out : (a : AttrId) (i : InstanceId) → IsSlotOfOne r (take (k + 1) came) a i → IsSlotOfOne r (take k came) a i ⊎ IsOwnSlot r x.0 a i
      out a i h = go (either (is_among (take k came) i) (is_same i x.0) (more i ∙ h.0))
        where
          go : (is_among (take k came) i ≡ true) ⊎ (is_same i x.0 ≡ true) → IsSlotOfOne r (take k came) a i ⊎ IsOwnSlot r x.0 a i
          go (inl e) = inl (e, h.1)
          go (inr e) = inr (e, h.1)

      into : (a : AttrId) (i : InstanceId) → IsSlotOfOne r (take k came) a i ⊎ IsOwnSlot r x.0 a i → IsSlotOfOne r (take (k + 1) came) a i
      into a i (inl h) = (sym (more i) ∙ or_left (is_among (take k came) i) (is_same i x.0) h.0, h.1)
      into a i (inr h) = (sym (more i) ∙ or_right (is_among (take k came) i) (is_same i x.0) h.0, h.1)

  -- ---- the readers that stay, question after question

  module _ (c : CaseView) (readers : Question → Waiting) where
    pub told_none : (tasks : List Task) → WaitsBesides r (IsLiveReader c readers []) tasks tasks
    told_none tasks = waits_none (IsLiveReader c readers []) (λ a i h. none_in h.1.0 h.1.1.0) tasks

    pub told_next : (told : List Question) (k : ℕ) (q : Question) (slots : List Slot) (old mid new : List Task) → k < length told → q ≡ get_or told k q → pairs_of slots ≡ readers q → WaitsBesides r (IsLiveReader c readers (take k told)) old mid → MarksLive r c slots mid new → WaitsBesides r (IsLiveReader c readers (take (k + 1) told)) old new
    told_next told k q slots old mid new lt is reading m n =
        waits_both (IsLiveReader c readers (take k told)) (λ a i. IsLive c i × Contains (pairs_of slots) (a, i)) (IsLiveReader c readers (take (k + 1) told)) old mid new m (record { ranked = n.ranked; waits = n.waits }) (λ a i. (out a i, into a i))
      where
        more : take (k + 1) told ≡ take k told ++ q ∷ []
        more = take_more told k q lt ∙ ap (λ z. take k told ++ z ∷ []) (sym is)

        at : (a : AttrId) (i : InstanceId) (p : Question) → Contains (readers p) (a, i) → (q ≡ p) ⊎ Contains [] p → Contains (pairs_of slots) (a, i)
        at a i p h (inl e) = subst (λ (ps : Waiting). Contains ps (a, i)) (sym reading) (subst (λ (x : Question). Contains (readers x) (a, i)) (sym e) h)
        at a i p h (inr none) = absurd (none_in p none)

        out : (a : AttrId) (i : InstanceId) → IsLiveReader c readers (take (k + 1) told) a i → IsLiveReader c readers (take k told) a i ⊎ (IsLive c i × Contains (pairs_of slots) (a, i))
        out a i h = go (Contains-append_cases (take k told) (q ∷ []) h.1.0 (subst (λ (qs : List Question). Contains qs h.1.0) more h.1.1.0))
          where
            go : Contains (take k told) h.1.0 ⊎ Contains (q ∷ []) h.1.0 → IsLiveReader c readers (take k told) a i ⊎ (IsLive c i × Contains (pairs_of slots) (a, i))
            go (inl there) = inl (h.0, (h.1.0, (there, h.1.1.1)))
            go (inr there) = inr (h.0, at a i h.1.0 h.1.1.1 (contains_cases q h.1.0 [] there))

        into : (a : AttrId) (i : InstanceId) → IsLiveReader c readers (take k told) a i ⊎ (IsLive c i × Contains (pairs_of slots) (a, i)) → IsLiveReader c readers (take (k + 1) told) a i
        into a i (inl h) = (h.0, (h.1.0, (subst (λ (qs : List Question). Contains qs h.1.0) (sym more) (Contains-append_left (take k told) (q ∷ []) h.1.0 h.1.1.0), h.1.1.1)))
        into a i (inr h) = (h.0, (q, (subst (λ (qs : List Question). Contains qs q) (sym more) (Contains-append_right (take k told) (q ∷ []) q (contains_head q [])), subst (λ (ps : Waiting). Contains ps (a, i)) reading h.1)))

-- what comes is live, and nothing else becomes live
module _ (live next gone come : Population) (home : InstanceId) (turns : Turns live next gone come home) where
  comes_live : (i : InstanceId) → is_among come i ≡ true → is_live next i ≡ true
  comes_live i comes = ap (λ b. is_same i global || b) (sym (some_in i next) ∙ ap is_some (turns.homes i) ∙ go (is_among gone i) refl) ∙ or_true (is_same i global)
    where
      or_true : (b : Bool) → (b || true) ≡ true
      or_true true = refl
      or_true false = refl

      go : (b : Bool) → is_among gone i ≡ b → is_some (cond (is_among gone i) None (cond (is_among come i) (Some home) (container_of live i))) ≡ true
      go true e = absurd (cc (turns.lived i e, turns.new i comes))
      go false e = ap (λ b. is_some (cond b None (cond (is_among come i) (Some home) (container_of live i)))) e ∙ ap (λ b. is_some (cond b (Some home) (container_of live i))) comes

  new_comes : (i : InstanceId) → is_live next i ≡ true → is_live live i ≡ false → is_among come i ≡ true
  new_comes i lives dead = go (is_among come i) refl
    where
      off : (b c : Bool) → (b || c) ≡ false → (b ≡ false) × (c ≡ false)
      off true c h = absurd (cc h)
      off false c h = (refl, h)

      not_global : is_same i global ≡ false
      not_global = (off (is_same i global) (list_any (λ p. is_same i p.0) live) dead).0

      homeless : is_some (container_of live i) ≡ false
      homeless = some_in i live ∙ (off (is_same i global) (list_any (λ p. is_same i p.0) live) dead).1

      housed : is_some (container_of next i) ≡ true
      housed = some_in i next ∙ sym (ap (λ b. b || list_any (λ p. is_same i p.0) next) not_global) ∙ lives

      none : (b : Bool) → is_some (cond b None (container_of live i)) ≡ false
      none true = refl
      none false = homeless

      go : (b : Bool) → is_among come i ≡ b → is_among come i ≡ true
      go true e = e
      go false e = absurd (cc (housed, ap is_some (turns.homes i), ap (λ b. is_some (cond (is_among gone i) None (cond b (Some home) (container_of live i)))) e, none (is_among gone i)))

module _ (s : Shift) (by : IsByLists s) (readers : Question → Waiting) (exact : AreReaders s.rules s.old readers) (told : List Question) (are : AreListsTold s told)
    (gone come : Population) (home : InstanceId) (turns : Turns s.old.live s.new.live gone come home)
    (none mid tasks : List Task) (empty : none ≡ []) (m : WaitsBesides s.rules (IsSlotOfOne s.rules come) none mid) (n : WaitsBesides s.rules (IsLiveReader s.new readers told) mid tasks) where
  slot_of : (a : AttrId) (i : InstanceId) → is_live s.new.live i ≡ true → has_slot s.rules a i ≡ true → is_slot s.rules s.new a i ≡ true
  slot_of a i live has = let both = and_parts (i.entity.0 == owner_of (shape_of s.rules.model) a) (is_some (rule_of s.rules.rules a)) has in slot_is s.rules s.new a i live (eqb-true i.entity.0 (owner_of (shape_of s.rules.model) a) both.0) both.1

  at_first : (a : AttrId) (i : InstanceId) → Contains (slots_of none) (a, i) ⊎ IsSlotOfOne s.rules come a i → (is_slot s.rules s.new a i ≡ true) × ((is_live s.old.live i ≡ false) ⊎ ReadsTold readers told a i)
  at_first a i (inl h) = absurd (none_in (a, i) (subst (λ (ts : List Task). Contains (slots_of ts) (a, i)) empty h))
  at_first a i (inr h) = (slot_of a i (comes_live s.old.live s.new.live gone come home turns i h.0) h.1, inl (turns.new i h.0))

  only : (a : AttrId) (i : InstanceId) → Contains (slots_of mid) (a, i) ⊎ IsLiveReader s.new readers told a i → (is_slot s.rules s.new a i ≡ true) × ((is_live s.old.live i ≡ false) ⊎ ReadsTold readers told a i)
  only a i (inl h) = at_first a i ((m.waits a i).0 h)
  only a i (inr h) = (still_slot s a i (exact.slots h.1.0 a i h.1.1.1) h.0, inr h.1)

  has_of : (a : AttrId) (i : InstanceId) → is_slot s.rules s.new a i ≡ true → has_slot s.rules a i ≡ true
  has_of a i slot =
      let owns = i.entity.0 == owner_of (shape_of s.rules.model) a in
      let ruled = is_some (rule_of s.rules.rules a) in
      let both = and_parts (is_live s.new.live i && owns) ruled slot in
      and_from owns ruled (and_parts (is_live s.new.live i) owns both.0).1 both.1

  pub list_begun : IsBegun s (slots_of tasks)
  list_begun = lists_begin s by readers exact told are (slots_of tasks) (record {
    only = λ a i h. only a i ((n.waits a i).0 h);
    new = λ a i slot dead. (n.waits a i).1 (inl ((m.waits a i).1 (inr (new_comes s.old.live s.new.live gone come home turns i (parts_of s.rules s.new a i slot).live dead, has_of a i slot))));
    reading = λ a i live reads. (n.waits a i).1 (inr (live, reads));
  })

  pub list_ranked : AreRanked s.rules tasks
  list_ranked = n.ranked (m.ranked (λ t there. absurd (none_in t (subst (λ (ts : List Task). Contains ts t) empty there))))
