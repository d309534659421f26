-- What waits at first after any change.
use Rattle.std.proofs.Common.{◌≡◌, ◌⊎◌, inl, inr, ℕ, ◌+◌, ◌<◌, true, List, [], ◌∷◌, ◌++◌, length, get_or, take, Contains, sym, ◌∙◌, ap, subst}
use Rattle.std.proofs.lemmas.List.{take_more}
use Rattle.std.proofs.lemmas.List.Elements.{Contains-append_left, Contains-append_right, Contains-append_cases}
use Rattle.opa_model.specs.declared.ids.AttrId.{AttrId}
use Rattle.opa_cells.specs.declared.instance.InstanceId.{InstanceId}
use Rattle.opa_case.specs.Cases.{CaseView}
use Rattle.opa_case.specs.declared.question.Question.{Question}
use Rattle.opa_tree.specs.declared.rulebase.Rulebase.{Rulebase}
use Rattle.opa_tree.proofs.Members.{none_in, contains_head, contains_cases}
use Rattle.opa_mean.specs.Changes.{slots}
use Rattle.opa_mean.specs.Given.{base_of, facts_of}
use Rattle.opa_mean.specs.Rulebases.{IsOf}
use Rattle.opa_mean.specs.Slots.{is_slot}
use Rattle.opa_mean.specs.Reached.Dirty.{is_fresh}
use Rattle.opa_mean.specs.Reached.Settling.{Waiting, IsDirty, IsBegun, AreReaders, shift}
use Rattle.opa_mean.specs.Reached.Slots.{pairs_of}
use Rattle.opa_mean.specs.declared.reached.slot.Slot.{Slot}
use Rattle.opa_mean.proofs.Filtered.{filter_in, filter_out}
use Rattle.opa_mean.proofs.SlotsAre.{slots_are_live}
use Rattle.opa_mean.proofs.reached.Freshness.{fresh_is_reached, reader_is_reached}
use Rattle.opa_session.specs.Settlement.Starts.{AreTold, MarksReaders, ReadsOne, fresh_slots}
use Rattle.opa_session.specs.Settlement.Tasks.{AreRanked, Marks, slots_of}
use Rattle.opa_session.specs.declared.settlement.task.Task.{Task}

module _ (r : Rulebase) (readers : Question → Waiting) where
  pub readers_start : (tasks : List Task) → MarksReaders r readers [] tasks tasks
  readers_start tasks = record { ranked = λ ranked. ranked; waits = λ a i. (λ h. inl h, λ k. only a i k) }
    where
      only : (a : AttrId) (i : InstanceId) → Contains (slots_of tasks) (a, i) ⊎ ReadsOne readers [] a i → Contains (slots_of tasks) (a, i)
      only a i (inl h) = h
      only a i (inr none) = absurd (none_in none.0 none.1.0)

  pub readers_one : (q : Question) (reads : List Slot) → pairs_of reads ≡ readers q → (old new : List Task) → Marks r reads old new → MarksReaders r readers (q ∷ []) old new
  readers_one q reads are old new m = record { ranked = m.ranked; waits = λ a i. (λ h. marks a i ((m.waits a i).0 h), λ k. (m.waits a i).1 (marked a i k)) }
    where
      marks : (a : AttrId) (i : InstanceId) → Contains (slots_of old) (a, i) ⊎ Contains (pairs_of reads) (a, i) → Contains (slots_of old) (a, i) ⊎ ReadsOne readers (q ∷ []) a i
      marks a i (inl h) = inl h
      marks a i (inr h) = inr (q, (contains_head q [], subst (λ (ps : Waiting). Contains ps (a, i)) are h))

      at : (a : AttrId) (i : InstanceId) (p : Question) → (q ≡ p) ⊎ Contains [] p → Contains (readers p) (a, i) → Contains (pairs_of reads) (a, i)
      at a i p (inl same) h = subst (λ (ps : Waiting). Contains ps (a, i)) (sym are) (subst (λ (x : Question). Contains (readers x) (a, i)) (sym same) h)
      at a i p (inr none) h = absurd (none_in p none)

      marked : (a : AttrId) (i : InstanceId) → Contains (slots_of old) (a, i) ⊎ ReadsOne readers (q ∷ []) a i → Contains (slots_of old) (a, i) ⊎ Contains (pairs_of reads) (a, i)
      marked a i (inl h) = inl h
      marked a i (inr (p, (there, h))) = inr (at a i p (contains_cases q p [] there) h)

  readers_more : (qs : List Question) (q : Question) (old mid new : List Task) → MarksReaders r readers qs old mid → MarksReaders r readers (q ∷ []) mid new → MarksReaders r readers (qs ++ q ∷ []) old new
  readers_more qs q old mid new m n = record {
    ranked = λ ranked. n.ranked (m.ranked ranked);
    waits = λ a i. (λ h. marks a i ((n.waits a i).0 h), λ k. marked a i k);
  }
    where
      marks_mid : (a : AttrId) (i : InstanceId) → Contains (slots_of old) (a, i) ⊎ ReadsOne readers qs a i → Contains (slots_of old) (a, i) ⊎ ReadsOne readers (qs ++ q ∷ []) a i
      marks_mid a i (inl h) = inl h
      marks_mid a i (inr (p, (there, h))) = inr (p, (Contains-append_left qs (q ∷ []) p there, h))

      marks : (a : AttrId) (i : InstanceId) → Contains (slots_of mid) (a, i) ⊎ ReadsOne readers (q ∷ []) a i → Contains (slots_of old) (a, i) ⊎ ReadsOne readers (qs ++ q ∷ []) a i
      marks a i (inl h) = marks_mid a i ((m.waits a i).0 h)
      marks a i (inr (p, (there, h))) = inr (p, (Contains-append_right qs (q ∷ []) p there, h))

      put : (a : AttrId) (i : InstanceId) (p : Question) → Contains (readers p) (a, i) → Contains qs p ⊎ Contains (q ∷ []) p → Contains (slots_of new) (a, i)
      put a i p h (inl there) = (n.waits a i).1 (inl ((m.waits a i).1 (inr (p, (there, h)))))
      put a i p h (inr there) = (n.waits a i).1 (inr (p, (there, h)))

      marked : (a : AttrId) (i : InstanceId) → Contains (slots_of old) (a, i) ⊎ ReadsOne readers (qs ++ q ∷ []) a i → Contains (slots_of new) (a, i)
      marked a i (inl h) = (n.waits a i).1 (inl ((m.waits a i).1 (inl h)))
      marked a i (inr (p, (there, h))) = put a i p h (Contains-append_cases qs (q ∷ []) p there)

  pub readers_next : (qs : List Question) (k : ℕ) (q : Question) (old mid new : List Task) → k < length qs → q ≡ get_or qs k q → MarksReaders r readers (take k qs) old mid → MarksReaders r readers (q ∷ []) mid new → MarksReaders r readers (take (k + 1) qs) old new
  readers_next qs k q old mid new lt is m n =
      subst (λ ps. MarksReaders r readers ps old new) (sym (take_more qs k q lt ∙ ap (λ z. take k qs ++ z ∷ []) (sym is))) (readers_more (take k qs) q old mid new m n)

-- the fresh slots are those of the case that are fresh
module _ (r : Rulebase) (c c' : CaseView) (after : IsOf r c') where
  out_fresh : (a : AttrId) (i : InstanceId) → Contains (fresh_slots r c c') (a, i) → (is_slot r c' a i ≡ true) × (is_fresh r c c' a i ≡ true)
  out_fresh a i h = let two = filter_out (λ (s : AttrId × InstanceId). is_fresh r c c' s.0 s.1) (slots (base_of r) (facts_of c')) (a, i) h in ((slots_are_live r c' after a i).0 two.0, two.1)

  into_fresh : (a : AttrId) (i : InstanceId) → is_slot r c' a i ≡ true → is_fresh r c c' a i ≡ true → Contains (fresh_slots r c c') (a, i)
  into_fresh a i slot fresh = filter_in (λ (s : AttrId × InstanceId). is_fresh r c c' s.0 s.1) (slots (base_of r) (facts_of c')) (a, i) ((slots_are_live r c' after a i).1 slot) fresh

module _ (r : Rulebase) (c c' : CaseView) (after : IsOf r c') (readers : Question → Waiting) (are : AreReaders r c' readers) (fresh : List Slot) (is_fresh_slots : pairs_of fresh ≡ fresh_slots r c c') (told : List Question) (tell : AreTold r c c' readers told)
    (none mid tasks : List Task) (empty : none ≡ []) (m : Marks r fresh none mid) (n : MarksReaders r readers told mid tasks) where
  pub change_begun : IsBegun (shift r c c') (slots_of tasks)
  change_begun = record {
    only = λ a i h. only a i ((n.waits a i).0 h);
    fresh = λ a i slot new. (n.waits a i).1 (inl ((m.waits a i).1 (inr (subst (λ (ps : Waiting). Contains ps (a, i)) (sym is_fresh_slots) (into_fresh r c c' after a i slot new)))));
    given = λ a i q slot reads given differs. let reader = are.all q a i slot reads in (n.waits a i).1 (inr (q, (tell.all q (a, i) reader given differs, reader)));
  }
    where
      at_first : (a : AttrId) (i : InstanceId) → Contains (slots_of none) (a, i) ⊎ Contains (pairs_of fresh) (a, i) → IsDirty (shift r c c') a i
      at_first a i (inl h) = absurd (none_in (a, i) (subst (λ (ts : List Task). Contains (slots_of ts) (a, i)) empty h))
      at_first a i (inr h) = let two = out_fresh r c c' after a i (subst (λ (ps : Waiting). Contains ps (a, i)) is_fresh_slots h) in record { slot = two.0; reached = fresh_is_reached (shift r c c') a i two.1 }

      only : (a : AttrId) (i : InstanceId) → Contains (slots_of mid) (a, i) ⊎ ReadsOne readers told a i → IsDirty (shift r c c') a i
      only a i (inl h) = at_first a i ((m.waits a i).0 h)
      only a i (inr (q, (there, h))) = record { slot = are.slots q a i h; reached = reader_is_reached (shift r c c') a i q (are.read q a i h) (tell.differ q there) }

  pub change_ranked : AreRanked r tasks
  change_ranked = n.ranked (m.ranked (λ t there. absurd (none_in t (subst (λ (ts : List Task). Contains ts t) empty there))))
