-- Where the slots are renewed that a change touches, the readers are those of the case that comes.
use Rattle.std.proofs.Common.{◌≡◌, ◌⊎◌, ◌↔◌, inl, inr, Bool, true, false, cond, List, [], ◌∷◌, ◌++◌, Contains, refl, sym, ◌∙◌, subst}
use Rattle.std.specs.List.{list_any}
use Rattle.std.proofs.lemmas.List.Elements.{Contains-append_left, Contains-push, Contains-push_cases}
use Rattle.opa_model.specs.declared.ids.AttrId.{AttrId}
use Rattle.opa_cells.specs.declared.instance.InstanceId.{InstanceId}
use Rattle.opa_case.specs.Cases.{CaseView}
use Rattle.opa_case.specs.Live.{is_live}
use Rattle.opa_case.specs.declared.question.Question.{Question}
use Rattle.opa_mean.specs.Gathering.{AreThose}
use Rattle.opa_mean.specs.Reached.ByLists.{IsByLists, AreListsTold}
use Rattle.opa_mean.specs.Reached.Dirty.{slot_reads}
use Rattle.opa_mean.specs.Reached.Settling.{AreReaders, SamePair, Shift, Waiting, new_reads}
use Rattle.opa_mean.proofs.reached.Causes.{witness, passes_in}
use Rattle.opa_mean.proofs.reached.ListsBegin.{readers_then}
use Rattle.opa_mean.proofs.reached.Parted.{parts_of, slot_is}
use Rattle.opa_mean.specs.Sameness.{same_question}
use Rattle.opa_mean.specs.Slots.{is_slot}
use Rattle.opa_mean.proofs.Everywhere.{in_map}
use Rattle.opa_mean.proofs.Exact.{question_exact}
use Rattle.opa_mean.proofs.Filtered.{map_out}
use Rattle.opa_mean.proofs.SameBoth.{question_itself}
use Rattle.opa_tree.specs.declared.rulebase.Rulebase.{Rulebase}
use Rattle.opa_tree.proofs.Members.{none_in, contains_cases}
use Rattle.opa_session.specs.Readers.Indexes.{pair_of, is_slot_of}
use Rattle.opa_session.specs.Readers.Renewals.{IsMore, IsLost, AddsMore, TakesLost, IsRenewal}
use Rattle.opa_session.specs.Readers.Touches.{IsRenewed, AreRenewed, AreTouched, AreWithout, reads_in, renewed_slots}
use Rattle.opa_session.specs.declared.readers.renewal.Renewal.{Renewal}
use Rattle.opa_session.specs.declared.readers.renewal.Renewed.{Renewed}
use Rattle.opa_session.proofs.readers.Taking.{slot_itself, same_slot}

pub decided : (qs : List Question) (q : Question) → Contains qs q ⊎ (Contains qs q → ⊥)
decided qs q = go (list_any (same_question q) qs) refl
  where
    go : (b : Bool) → list_any (same_question q) qs ≡ b → Contains qs q ⊎ (Contains qs q → ⊥)
    go true e = let w = witness (same_question q) qs e in inl (subst (λ (p : Question). Contains qs p) (sym (question_exact q w.0 w.1.1)) w.1.0)
    go false e = inr (λ there. cc (e, passes_in (same_question q) qs q there (question_itself q)))

-- what a slot reads, and nothing where it isn't one
module _ (r : Rulebase) (c : CaseView) (a : AttrId) (i : InstanceId) (q : Question) where
  pub into_reads : is_slot r c a i ≡ true → Contains (slot_reads r c a i) q → Contains (reads_in r c a i) q
  into_reads slot h = subst (λ b. Contains (cond b (slot_reads r c a i) []) q) (sym slot) h

  pub out_reads : Contains (reads_in r c a i) q → (is_slot r c a i ≡ true) × Contains (slot_reads r c a i) q
  out_reads h = go (is_slot r c a i) refl h
    where
      go : (b : Bool) → is_slot r c a i ≡ b → Contains (cond b (slot_reads r c a i) []) q → (is_slot r c a i ≡ true) × Contains (slot_reads r c a i) q
      go true e there = (e, there)
      go false e none = absurd (none_in q none)

module _ (s : Shift) (by : IsByLists s) (readers : Question → Waiting) (exact : AreReaders s.rules s.old readers) (told : List Question) (are : AreListsTold s told) (waiting : Waiting) (touched : AreTouched s readers told waiting) (n : Renewal) (h : AreRenewed s waiting [] n.slots) where
  abbrev before : AttrId × InstanceId → List Question
  before p = reads_in s.rules s.old p.0 p.1

  abbrev then : AttrId × InstanceId → List Question
  then p = reads_in s.rules s.new p.0 p.1

  abbrev is_anew : AttrId → InstanceId → Bool
  is_anew a i = list_any (λ (x : Renewed). is_slot_of a i x.slot) n.slots

  -- it is among those that are renewed
  abbrev IsOne : AttrId × InstanceId → Type 0
  IsOne p = (x : Renewed) × (Contains n.slots x × SamePair (pair_of x.slot) p)

  one : (p : AttrId × InstanceId) → Contains waiting p → IsOne p
  one p there = go (h.all p there)
    where
      go : Contains [] p ⊎ Contains (renewed_slots n.slots) p → IsOne p
      go (inl none) = absurd (none_in p none)
      go (inr c) = map_out (λ (x : Renewed). pair_of x.slot) n.slots p c

  one_anew : (a : AttrId) (i : InstanceId) → IsOne (a, i) → is_anew a i ≡ true
  one_anew a i w = passes_in (λ (x : Renewed). is_slot_of a i x.slot) n.slots w.0 w.1.0 (subst (λ (p : AttrId × InstanceId). is_slot_of p.0 p.1 w.0.slot ≡ true) w.1.1 (slot_itself w.0.slot))

  anew_one : (a : AttrId) (i : InstanceId) → is_anew a i ≡ true → IsOne (a, i)
  anew_one a i e = let w = witness (λ (x : Renewed). is_slot_of a i x.slot) n.slots e in (w.0, (w.1.0, sym (same_slot a i w.0.slot w.1.1)))

  read_before : (q : Question) (p : AttrId × InstanceId) → Contains (readers q) p → Contains (before p) q
  read_before q p there = into_reads s.rules s.old p.0 p.1 q (exact.slots q p.0 p.1 there) (exact.read q p.0 p.1 there)

  before_read : (q : Question) (p : AttrId × InstanceId) → Contains (before p) q → Contains (readers q) p
  before_read q p there = let two = out_reads s.rules s.old p.0 p.1 q there in exact.all q p.0 p.1 two.0 two.1

  -- what is named of a slot, said of the slot
  more_is : (q : Question) (p : AttrId × InstanceId) → IsMore n.slots q p → Contains (then p) q × (Contains (before p) q → ⊥)
  more_is q p m = subst (λ (y : AttrId × InstanceId). Contains (then y) q × (Contains (before y) q → ⊥)) m.1.1.0 (((h.each m.0 m.1.0).more q).0 m.1.1.1)

  lost_is : (q : Question) (p : AttrId × InstanceId) → IsLost n.slots q p → Contains (before p) q × (Contains (then p) q → ⊥)
  lost_is q p m = subst (λ (y : AttrId × InstanceId). Contains (before y) q × (Contains (then y) q → ⊥)) m.1.1.0 (((h.each m.0 m.1.0).lost q).0 m.1.1.1)

  is_more : (q : Question) (p : AttrId × InstanceId) → IsOne p → Contains (then p) q → (Contains (before p) q → ⊥) → IsMore n.slots q p
  is_more q p w there none =
      let both : Contains (then (pair_of w.0.slot)) q × (Contains (before (pair_of w.0.slot)) q → ⊥) = subst (λ (y : AttrId × InstanceId). Contains (then y) q × (Contains (before y) q → ⊥)) (sym w.1.1) (there, none) in
      (w.0, (w.1.0, (w.1.1, ((h.each w.0 w.1.0).more q).1 both)))

  is_lost : (q : Question) (p : AttrId × InstanceId) → IsOne p → Contains (before p) q → (Contains (then p) q → ⊥) → IsLost n.slots q p
  is_lost q p w there none =
      let both : Contains (before (pair_of w.0.slot)) q × (Contains (then (pair_of w.0.slot)) q → ⊥) = subst (λ (y : AttrId × InstanceId). Contains (before y) q × (Contains (then y) q → ⊥)) (sym w.1.1) (there, none) in
      (w.0, (w.1.0, (w.1.1, ((h.each w.0 w.1.0).lost q).1 both)))

  apart : (q : Question) (p : AttrId × InstanceId) → IsMore n.slots q p → Contains (readers q) p → ⊥
  apart q p m there = (more_is q p m).1 (read_before q p there)

  module _ (added after : Question → Waiting) (adds : AddsMore n.slots readers added) (takes : TakesLost n.slots added after) where
    anew_read : (q : Question) (a : AttrId) (i : InstanceId) → is_anew a i ≡ true → (IsLost n.slots q (a, i) → ⊥) → Contains (readers q) (a, i) ⊎ IsMore n.slots q (a, i) → Contains (then (a, i)) q
    anew_read q a i e kept (inr m) = (more_is q (a, i) m).0
    anew_read q a i e kept (inl was) = go (decided (then (a, i)) q)
      where
        go : Contains (then (a, i)) q ⊎ (Contains (then (a, i)) q → ⊥) → Contains (then (a, i)) q
        go (inl there) = there
        go (inr none) = absurd (kept (is_lost q (a, i) (anew_one a i e) (read_before q (a, i) was) none))

    anew_added : (q : Question) (a : AttrId) (i : InstanceId) → is_anew a i ≡ true → Contains (then (a, i)) q → Contains (before (a, i)) q ⊎ (Contains (before (a, i)) q → ⊥) → Contains (added q) (a, i)
    anew_added q a i e there (inl was) = (adds q (a, i)).1 (inl (before_read q (a, i) was))
    anew_added q a i e there (inr none) = (adds q (a, i)).1 (inr (is_more q (a, i) (anew_one a i e) there none))

    anew : (q : Question) (a : AttrId) (i : InstanceId) → is_slot s.rules s.new a i ≡ true → is_anew a i ≡ true → Contains (after q) (a, i) ↔ Contains (new_reads s a i) q
    anew q a i slot e = (
      λ c. let two = (takes q (a, i)).0 c in (out_reads s.rules s.new a i q (anew_read q a i e two.1 ((adds q (a, i)).0 two.0))).1,
      λ c.
          let there : Contains (then (a, i)) q = into_reads s.rules s.new a i q slot c in
          (takes q (a, i)).1 (anew_added q a i e there (decided (before (a, i)) q), λ m. (lost_is q (a, i) m).1 there),
    )

    others : (q : Question) (a : AttrId) (i : InstanceId) → is_anew a i ≡ false → Contains (after q) (a, i) ↔ Contains (readers q) (a, i)
    others q a i e = (λ c. out ((adds q (a, i)).0 ((takes q (a, i)).0 c).0), λ c. (takes q (a, i)).1 ((adds q (a, i)).1 (inl c), λ m. not_one (m.0, (m.1.0, m.1.1.0))))
      where
        not_one : IsOne (a, i) → ⊥
        not_one w = cc (e, one_anew a i w)

        out : Contains (readers q) (a, i) ⊎ IsMore n.slots q (a, i) → Contains (readers q) (a, i)
        out (inl was) = was
        out (inr m) = absurd (not_one (m.0, (m.1.0, m.1.1.0)))

    gone : (q : Question) (a : AttrId) (i : InstanceId) → is_slot s.rules s.new a i ≡ false → Contains (after q) (a, i) → ⊥
    gone q a i dead c = let two = (takes q (a, i)).0 c in out two.1 ((adds q (a, i)).0 two.0)
      where
        not_then : Contains (then (a, i)) q → ⊥
        not_then there = cc (dead, (out_reads s.rules s.new a i q there).0)

        went : Contains (readers q) (a, i) → (b : Bool) → is_live s.new.live i ≡ b → IsOne (a, i)
        went was true live = let p = parts_of s.rules s.old a i (exact.slots q a i was) in absurd (cc (dead, slot_is s.rules s.new a i live p.owner p.ruled))
        went was false e = one (a, i) (touched.turned.goes a i (exact.slots q a i was) e)

        out : (IsLost n.slots q (a, i) → ⊥) → Contains (readers q) (a, i) ⊎ IsMore n.slots q (a, i) → ⊥
        out kept (inr m) = not_then (more_is q (a, i) m).0
        out kept (inl was) = kept (is_lost q (a, i) (went was (is_live s.new.live i) refl) (read_before q (a, i) was) not_then)

    are_then : AreReaders s.rules s.new after
    are_then = readers_then s by told are readers after is_anew exact (record {
      anew = anew;
      others = others;
      comes = λ a i slot dead. one_anew a i (one (a, i) (touched.turned.comes a i slot dead));
      reading = λ a i reads. one_anew a i (one (a, i) (touched.reading a i reads));
      gone = gone;
    })

  pub renewal_is : IsRenewal s readers n
  renewal_is = record { apart = apart; exact = are_then }

-- of the same questions, in whatever number
without_those : (xs xs' ys ys' left : List Question) → AreThose xs xs' → AreThose ys ys' → AreWithout xs ys left → AreWithout xs' ys' left
without_those xs xs' ys ys' left e f h q =
    (λ there. let two = (h q).0 there in ((e q).0 two.0, λ other. two.1 ((f q).1 other)), λ two. (h q).1 ((e q).1 two.0, λ other. two.1 ((f q).0 other)))

-- one slot is renewed
pub one_renewed : (s : Shift) (x : Renewed) (before then b b' t t' : List Question) → AreThose before (reads_in s.rules s.old x.slot.attr x.slot.inst) → AreThose then (reads_in s.rules s.new x.slot.attr x.slot.inst) → t ≡ then → b ≡ before → AreWithout t b x.more → b' ≡ before → t' ≡ then → AreWithout b' t' x.lost
    → IsRenewed s x
one_renewed s x before then b b' t t' is_before is_then e f more e' f' lost = record {
  more = without_those t (reads_in s.rules s.new x.slot.attr x.slot.inst) b (reads_in s.rules s.old x.slot.attr x.slot.inst) x.more (those t then e (reads_in s.rules s.new x.slot.attr x.slot.inst) is_then) (those b before f (reads_in s.rules s.old x.slot.attr x.slot.inst) is_before) more;
  lost = without_those b' (reads_in s.rules s.old x.slot.attr x.slot.inst) t' (reads_in s.rules s.new x.slot.attr x.slot.inst) x.lost (those b' before e' (reads_in s.rules s.old x.slot.attr x.slot.inst) is_before) (those t' then f' (reads_in s.rules s.new x.slot.attr x.slot.inst) is_then) lost;
}
  where
    those : (xs ys : List Question) → xs ≡ ys → (zs : List Question) → AreThose ys zs → AreThose xs zs
    those xs ys is zs h = subst (λ (qs : List Question). AreThose qs zs) (sym is) h

-- what was gathered of a slot, and of what isn't one
pub those_in : (r : Rulebase) (c : CaseView) (a : AttrId) (i : InstanceId) (found : List Question) → is_slot r c a i ≡ true → AreThose found (slot_reads r c a i) → AreThose found (reads_in r c a i)
those_in r c a i found slot h = subst (λ b. AreThose found (cond b (slot_reads r c a i) [])) (sym slot) h

pub none_in_those : (r : Rulebase) (c : CaseView) (a : AttrId) (i : InstanceId) (found : List Question) → is_slot r c a i ≡ false → found ≡ [] → AreThose found (reads_in r c a i)
none_in_those r c a i found not none = subst (λ b. AreThose found (cond b (slot_reads r c a i) [])) (sym not) (subst (λ qs. AreThose qs nil) (sym none) (λ q. (λ there. there, λ there. there)))
  where
    nil : List Question
    nil = []

-- none is renewed, and one more
pub renewed_none : (s : Shift) (waiting : Waiting) (all : List Renewed) → all ≡ [] → AreRenewed s waiting waiting all
renewed_none s waiting all is = record { each = λ x there. absurd (none_in x (subst (λ (xs : List Renewed). Contains xs x) is there)); all = λ p there. inl there }

pub renewed_next : (s : Shift) (waiting left left' : Waiting) (all all' : List Renewed) (p : AttrId × InstanceId) (x : Renewed) → left ≡ p ∷ left' → pair_of x.slot ≡ p → IsRenewed s x → all' ≡ all ++ x ∷ [] → AreRenewed s waiting left all → AreRenewed s waiting left' all'
renewed_next s waiting left left' all all' p x is slot renewed more h = record {
  each = λ y there. each y (Contains-push_cases all x y (subst (λ (xs : List Renewed). Contains xs y) more there));
  all = λ r there. of r (h.all r there);
}
  where
    each : (y : Renewed) → Contains all y ⊎ (x ≡ y) → IsRenewed s y
    each y (inl there) = h.each y there
    each y (inr e) = subst (IsRenewed s) e renewed

    in_more : (y : Renewed) → Contains (all ++ x ∷ []) y → Contains (renewed_slots all') (pair_of y.slot)
    in_more y there = in_map (λ (z : Renewed). pair_of z.slot) all' y (subst (λ (xs : List Renewed). Contains xs y) (sym more) there)

    first : (r : AttrId × InstanceId) → (p ≡ r) ⊎ Contains left' r → Contains left' r ⊎ Contains (renewed_slots all') r
    first r (inl e) = inr (subst (λ (y : AttrId × InstanceId). Contains (renewed_slots all') y) (slot ∙ e) (in_more x (Contains-push all x)))
    first r (inr there) = inl there

    of : (r : AttrId × InstanceId) → Contains left r ⊎ Contains (renewed_slots all) r → Contains left' r ⊎ Contains (renewed_slots all') r
    of r (inl there) = first r (contains_cases p r left' (subst (λ (ys : Waiting). Contains ys r) is there))
    of r (inr c) = let w = map_out (λ (z : Renewed). pair_of z.slot) all r c in inr (subst (λ (y : AttrId × InstanceId). Contains (renewed_slots all') y) w.1.1 (in_more w.0 (Contains-append_left all (x ∷ []) w.0 w.1.0)))
