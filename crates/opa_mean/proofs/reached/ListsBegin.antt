-- What waits at first where lists change, by the readers of the case that is held.
use Rattle.std.proofs.Common.{◌≡◌, ◌⊎◌, ◌<◌, inl, inr, List, Bool, true, false, not, Contains, Option, is_some, refl, sym, ◌∙◌, ap, subst}
use Rattle.std.specs.Prelude.{◌||◌, ◌&&◌}
use Rattle.std.specs.List.{list_any}
use Rattle.std.specs.FinMap.{get}
use Rattle.std.specs.Option.{option_copied}
use Rattle.std.proofs.lemmas.Bool.{and_parts, not-false}
use Rattle.opa_date.specs.declared.TheConstants.{DAYS}
use Rattle.opa_model.specs.declared.ids.AttrId.{AttrId}
use Rattle.opa_cells.specs.Instances.{is_same}
use Rattle.opa_cells.specs.declared.instance.InstanceId.{InstanceId}
use Rattle.opa_cells.proofs.Orders.{same_itself}
use Rattle.opa_case.specs.Cases.{IsLive, Answer}
use Rattle.opa_case.specs.Live.{is_live, container_of}
use Rattle.opa_case.specs.Shapes.{shape_of}
use Rattle.opa_case.specs.declared.question.Question.{Question}
use Rattle.opa_case.specs.declared.question.Question.TheVariants as question
use Rattle.opa_case.proofs.Overlaid.{relisted_answers}
use Rattle.opa_tree.specs.Rules.{rule_of}
use Rattle.opa_mean.specs.Given.{base_of, facts_of, line_value}
use Rattle.opa_mean.specs.Mean as mean
use Rattle.opa_mean.specs.Sameness.{same_question, same_lists, same_options, same_names}
use Rattle.opa_mean.specs.Slots.{is_slot}
use Rattle.opa_mean.proofs.Everywhere.{all_of_each, each_of_all}
use Rattle.opa_mean.proofs.Exact.{names_exact, lists_exact, question_exact}
use Rattle.opa_mean.proofs.Fitting.{live_in, in_live}
use Rattle.opa_mean.proofs.LawsOver as over
use Rattle.opa_mean.proofs.SameBoth.{lists_itself, options_itself, question_itself}
use Rattle.opa_mean.specs.Reached.ByLists.{IsByLists, AreListsTold, ReadsTold, WaitForLists, ListsBegin, HeldCanTell, NewCanTell, AreReadersThen, ReadersThen, RelistedIsByLists}
use Rattle.opa_mean.specs.Reached.Dirty.{slot_reads, is_fresh, is_reached, IsReadBy}
use Rattle.opa_mean.specs.Reached.Settling.{Shift, AreReaders, IsBegun, IsDirty, Waiting, is_told, is_given, new_reads, rank_of}
use Rattle.opa_mean.proofs.reached.Answering.{answers_differ}
use Rattle.opa_mean.proofs.reached.Causes.{witness, passes_in}
use Rattle.opa_mean.proofs.reached.Differing.{none_where_same}
use Rattle.opa_mean.proofs.reached.Lowering.{reads_are_lower}
use Rattle.opa_mean.proofs.reached.Parted.{parts_of, slot_is}
use Rattle.opa_mean.proofs.reached.Reaching.{slot_kept, dirty_by_old_reads, new_is_dirty}
use Rattle.opa_mean.proofs.reached.Rereading.{SameList}
use Rattle.opa_mean.proofs.reached.Freshness.{stale_parts}

no_pass : {X : Type 0} (p : X → Bool) (xs : List X) (x : X) → list_any p xs ≡ false → Contains xs x → p x ≡ false
no_pass p xs x none there = go (p x) refl
  where
    go : (b : Bool) → p x ≡ b → p x ≡ false
    go false e = e
    go true e = absurd (cc (none, passes_in p xs x there e))

all_three : (x y z : Bool) → x ≡ true → y ≡ true → (x && (y && z)) ≡ false → z ≡ false
all_three true true z a b h = h
all_three false y z a b h = absurd (cc a)
all_three true false z a b h = absurd (cc b)

module _ (s : Shift) (by : IsByLists s) (readers : Question → Waiting) (exact : AreReaders s.rules s.old readers) (told : List Question) (are : AreListsTold s told) where
  abbrev old_reads : AttrId → InstanceId → List Question
  old_reads a i = slot_reads s.rules s.old a i

  -- a list at an instance that stays, which differs
  abbrev is_lost : Question → Bool
  is_lost (question.Attr m j) = false
  is_lost (question.Members q j) = is_live s.old.live j && (is_live s.new.live j && is_told s (question.Members q j))

  -- where no list differs that a slot read at what stays, it reads the same
  reads_same : (a : AttrId) (i : InstanceId) → IsLive s.old i → IsLive s.new i → list_any is_lost (old_reads a i) ≡ false → old_reads a i ≡ new_reads s a i
  reads_same a i live live' none =
      slot_kept (base_of s.rules) (facts_of s.old) (facts_of s.new) (over.facts s.rules s.old by.is.before) (over.facts s.rules s.new by.is.after) (λ j l l'. by.stay j (in_live s.old j l) (in_live s.new j l')) a i (live_in s.old i live, live_in s.new i live')
      (all_of_each _ (old_reads a i) one)
    where
      one : (q : Question) → Contains (old_reads a i) q → SameList (λ j. mean.IsLive (facts_of s.old) j × mean.IsLive (facts_of s.new) j) (facts_of s.old).members (facts_of s.new).members q
      one (question.Attr m j) there = tt
      one (question.Members q j) there = λ both. names_exact ((facts_of s.old).members q j) ((facts_of s.new).members q j) (not-false (same_names ((facts_of s.old).members q j) ((facts_of s.new).members q j))
          (all_three (is_live s.old.live j) (is_live s.new.live j) (is_told s (question.Members q j)) (in_live s.old j both.0) (in_live s.new j both.1) (no_pass is_lost (old_reads a i) (question.Members q j) none there)))

  -- a list that differs, at what stays, is told
  lost_told : (a : AttrId) (i : InstanceId) (q : Question) → is_slot s.rules s.new a i ≡ true → IsLive s.old i → Contains (old_reads a i) q → is_lost q ≡ true → ReadsTold readers told a i
  lost_told a i (question.Attr m j) slot live there lost = absurd (cc lost)
  lost_told a i (question.Members q j) slot live there lost =
      let one = and_parts _ _ lost in
      let two = and_parts _ _ one.1 in
      let p = parts_of s.rules s.new a i slot in
      (question.Members q j, (are.all q j one.0 two.0 two.1, exact.all (question.Members q j) a i (slot_is s.rules s.old a i live p.owner p.ruled) there))

  -- what doesn't read the same reads a list that is told
  pub same_or_told : (a : AttrId) (i : InstanceId) → is_slot s.rules s.new a i ≡ true → IsLive s.old i → (old_reads a i ≡ new_reads s a i) ⊎ ReadsTold readers told a i
  same_or_told a i slot live = go (list_any is_lost (old_reads a i)) refl
    where
      go : (b : Bool) → list_any is_lost (old_reads a i) ≡ b → (old_reads a i ≡ new_reads s a i) ⊎ ReadsTold readers told a i
      go false none = inl (reads_same a i live (parts_of s.rules s.new a i slot).live none)
      go true some = let x = witness is_lost (old_reads a i) some in inr (lost_told a i x.0 slot live x.1.0 x.1.1)

  -- the readers afterwards
  module _ (after : Question → Waiting) (is_anew : AttrId → InstanceId → Bool) (then : AreReadersThen s told readers after is_anew) where
    slots_then : (q : Question) (a : AttrId) (i : InstanceId) → Contains (after q) (a, i) → is_slot s.rules s.new a i ≡ true
    slots_then q a i there = go (is_slot s.rules s.new a i) refl
      where
        go : (b : Bool) → is_slot s.rules s.new a i ≡ b → is_slot s.rules s.new a i ≡ true
        go true e = e
        go false e = absurd (then.gone q a i e there)

    read_then : (q : Question) (a : AttrId) (i : InstanceId) → Contains (after q) (a, i) → Contains (new_reads s a i) q
    read_then q a i there = go (is_anew a i) refl
      where
        slot : is_slot s.rules s.new a i ≡ true
        slot = slots_then q a i there

        kept : is_anew a i ≡ false → Contains (readers q) (a, i) → (old_reads a i ≡ new_reads s a i) ⊎ ReadsTold readers told a i → Contains (new_reads s a i) q
        kept e was (inl same) = subst (λ (qs : List Question). Contains qs q) same (exact.read q a i was)
        kept e was (inr reads) = absurd (cc (e, then.reading a i reads))

        go : (b : Bool) → is_anew a i ≡ b → Contains (new_reads s a i) q
        go true e = (then.anew q a i slot e).0 there
        go false e = let was = (then.others q a i e).0 there in kept e was (same_or_told a i slot (parts_of s.rules s.old a i (exact.slots q a i was)).live)

    all_then : (q : Question) (a : AttrId) (i : InstanceId) → is_slot s.rules s.new a i ≡ true → Contains (new_reads s a i) q → Contains (after q) (a, i)
    all_then q a i slot there = go (is_anew a i) refl
      where
        stays : is_anew a i ≡ false → IsLive s.old i → (old_reads a i ≡ new_reads s a i) ⊎ ReadsTold readers told a i → Contains (after q) (a, i)
        stays e live (inr reads) = absurd (cc (e, then.reading a i reads))
        stays e live (inl same) =
            let p = parts_of s.rules s.new a i slot in
            (then.others q a i e).1 (exact.all q a i (slot_is s.rules s.old a i live p.owner p.ruled) (subst (λ (qs : List Question). Contains qs q) (sym same) there))

        lived : is_anew a i ≡ false → (b : Bool) → is_live s.old.live i ≡ b → Contains (after q) (a, i)
        lived e false dead = absurd (cc (e, then.comes a i slot dead))
        lived e true live = stays e live (same_or_told a i slot live)

        go : (b : Bool) → is_anew a i ≡ b → Contains (after q) (a, i)
        go true e = (then.anew q a i slot e).1 there
        go false e = lived e (is_live s.old.live i) refl

    pub then_are : AreReaders s.rules s.new after
    then_are = record { slots = slots_then; read = read_then; all = all_then }

module _ (s : Shift) (by : IsByLists s) (readers : Question → Waiting) (exact : AreReaders s.rules s.old readers) (told : List Question) (are : AreListsTold s told) (waiting : Waiting) (w : WaitForLists s readers told waiting) where
  -- what stays and reads a told question waits
  waits_by : (a : AttrId) (i : InstanceId) (q : Question) → is_slot s.rules s.new a i ≡ true → IsLive s.old i → Contains (slot_reads s.rules s.old a i) q → Contains told q → Contains waiting (a, i)
  waits_by a i q slot live there is =
      let p = parts_of s.rules s.new a i slot in
      w.reading a i p.live (q, (is, exact.all q a i (slot_is s.rules s.old a i live p.owner p.ruled) there))

  -- what doesn't read the same waits
  same_or_waits : (a : AttrId) (i : InstanceId) → is_slot s.rules s.new a i ≡ true → IsLive s.old i → (slot_reads s.rules s.old a i ≡ new_reads s a i) ⊎ Contains waiting (a, i)
  same_or_waits a i slot live = go (same_or_told s by readers exact told are a i slot live)
    where
      go : (slot_reads s.rules s.old a i ≡ new_reads s a i) ⊎ ReadsTold readers told a i → (slot_reads s.rules s.old a i ≡ new_reads s a i) ⊎ Contains waiting (a, i)
      go (inl same) = inl same
      go (inr reads) = inr (w.reading a i (parts_of s.rules s.new a i slot).live reads)

  only : (a : AttrId) (i : InstanceId) → Contains waiting (a, i) → IsDirty s a i
  only a i there = let p = w.only a i there in record { slot = p.0; reached = go p.0 p.1 }
    where
      go : is_slot s.rules s.new a i ≡ true → (is_live s.old.live i ≡ false) ⊎ ReadsTold readers told a i → is_reached s.rules s.old s.new a i ≡ true
      go slot (inl new) = new_is_dirty s.rules s.old s.new a i new
      go slot (inr r) =
          dirty_by_old_reads s.rules s.old s.new by.is.before by.is.after by.stay a i (parts_of s.rules s.old a i (exact.slots r.0 a i r.1.1)).live (parts_of s.rules s.new a i slot).live
          ∙ passes_in (is_told s) (slot_reads s.rules s.old a i) r.0 (exact.read r.0 a i r.1.1) (are.differ r.0 r.1.0)

  -- what was live before and reads the same isn't fresh
  not_fresh : (a : AttrId) (i : InstanceId) → IsLive s.old i → IsLive s.new i → slot_reads s.rules s.old a i ≡ new_reads s a i → is_fresh s.rules s.old s.new a i ≡ false
  not_fresh a i live live' same =
      ap (λ b. not (b && same_options is_same (container_of s.old.live i) (container_of s.new.live i)) || not (same_lists same_question (slot_reads s.rules s.old a i) (new_reads s a i))) live
      ∙ ap (λ b. not b || not (same_lists same_question (slot_reads s.rules s.old a i) (new_reads s a i))) (ap (same_options is_same (container_of s.old.live i)) (by.stay i live live') ∙ home_itself (container_of s.old.live i))
      ∙ ap not (ap (same_lists same_question (slot_reads s.rules s.old a i)) (sym same) ∙ lists_itself same_question question_itself (slot_reads s.rules s.old a i))
    where
      home_itself : (o : Option InstanceId) → same_options is_same o o ≡ true
      home_itself o = options_itself is_same same_itself o

  fresh : (a : AttrId) (i : InstanceId) → is_slot s.rules s.new a i ≡ true → is_fresh s.rules s.old s.new a i ≡ true → Contains waiting (a, i)
  fresh a i slot new = go (is_live s.old.live i) refl
    where
      at : IsLive s.old i → (slot_reads s.rules s.old a i ≡ new_reads s a i) ⊎ Contains waiting (a, i) → Contains waiting (a, i)
      at live (inl same) = absurd (cc (new, not_fresh a i live (parts_of s.rules s.new a i slot).live same))
      at live (inr there) = there

      go : (b : Bool) → is_live s.old.live i ≡ b → Contains waiting (a, i)
      go false e = w.new a i slot e
      go true e = at e (same_or_waits a i slot e)

  -- no answer differs at what stays
  answer_stays : (m : AttrId) (j : InstanceId) → IsLive s.new j → is_given s.rules (question.Attr m j) ≡ true → is_told s (question.Attr m j) ≡ true → ⊥
  answer_stays m j live given is =
      cc (
        sym (answers_differ s.rules s.old s.new by.is.before by.is.after m j (none (is_some (rule_of s.rules.rules m)) given)) ∙ is,
        ap is_some (none_where_same DAYS (line_value (get s.old.answers (m.0, j))) (line_value (get s.new.answers (m.0, j))) (λ d lt. ap (λ (o : Option Answer). line_value o d) (sym (by.answers m j live)))),
      )
    where
      none : (b : Bool) → not b ≡ true → b ≡ false
      none true h = absurd (cc h)
      none false h = refl

  given : (a : AttrId) (i : InstanceId) (q : Question) → is_slot s.rules s.new a i ≡ true → Contains (new_reads s a i) q → is_given s.rules q ≡ true → is_told s q ≡ true → Contains waiting (a, i)
  given a i q slot there is differs = go (is_live s.old.live i) refl
    where
      live' : IsLive s.new i
      live' = (parts_of s.rules s.new a i slot).live

      by_same : IsLive s.old i → Contains (slot_reads s.rules s.old a i) q → (p : Question) → q ≡ p → Contains waiting (a, i)
      by_same live before (question.Attr m j) e =
          let read : IsReadBy s.rules s.new a (question.Attr m j) = subst (IsReadBy s.rules s.new a) e (each_of_all _ (new_reads s a i) (reads_are_lower s.rules s.new by.is.after a i live') q there) in
          absurd (answer_stays m j (and_parts _ _ read.0).0 (ap (is_given s.rules) (sym e) ∙ is) (ap (is_told s) (sym e) ∙ differs))
      by_same live before (question.Members r j) e =
          let read : IsLive s.new j = subst (IsReadBy s.rules s.new a) e (each_of_all _ (new_reads s a i) (reads_are_lower s.rules s.new by.is.after a i live') q there) in
          let was : IsLive s.old j = subst (IsReadBy s.rules s.old a) e (each_of_all _ (slot_reads s.rules s.old a i) (reads_are_lower s.rules s.old by.is.before a i live) q before) in
          waits_by a i (question.Members r j) slot live (subst (Contains (slot_reads s.rules s.old a i)) e before) (are.all r j was read (ap (is_told s) (sym e) ∙ differs))

      at : IsLive s.old i → (slot_reads s.rules s.old a i ≡ new_reads s a i) ⊎ Contains waiting (a, i) → Contains waiting (a, i)
      at live (inl same) = by_same live (subst (λ (qs : List Question). Contains qs q) (sym same) there) q refl
      at live (inr waits) = waits

      go : (b : Bool) → is_live s.old.live i ≡ b → Contains waiting (a, i)
      go false e = w.new a i slot e
      go true e = at e (same_or_waits a i slot e)

  begun : IsBegun s waiting
  begun = record { only = only; fresh = fresh; given = given }

pub lists_begin : ListsBegin
lists_begin s by readers exact told are waiting w = begun s by readers exact told are waiting w

pub readers_then : ReadersThen
readers_then s by told are before after is_anew exact then = then_are s by before exact told are after is_anew then

-- the readers before a change settle it
pub held_can_tell : HeldCanTell
held_can_tell s is stay readers exact = record { slots = slots; read = read; higher = higher; all = all }
  where
    slots : (q : Question) (a : AttrId) (i : InstanceId) → Contains (readers q) (a, i) → IsLive s.new i → is_slot s.rules s.new a i ≡ true
    slots q a i there live' = let p = parts_of s.rules s.old a i (exact.slots q a i there) in slot_is s.rules s.new a i live' p.owner p.ruled

    read : (q : Question) (a : AttrId) (i : InstanceId) → Contains (readers q) (a, i) → IsLive s.new i → is_fresh s.rules s.old s.new a i ≡ false → Contains (new_reads s a i) q
    read q a i there live' stale =
        let two = stale_parts (is_live s.old.live i) (same_options is_same (container_of s.old.live i) (container_of s.new.live i)) (same_lists same_question (slot_reads s.rules s.old a i) (new_reads s a i)) stale in
        subst (λ (qs : List Question). Contains qs q) (lists_exact same_question question_exact (slot_reads s.rules s.old a i) (new_reads s a i) two.1) (exact.read q a i there)

    higher : (m : AttrId) (j : InstanceId) (a : AttrId) (i : InstanceId) → Contains (readers (question.Attr m j)) (a, i) → rank_of s m < rank_of s a
    higher m j a i there = (each_of_all _ (slot_reads s.rules s.old a i) (reads_are_lower s.rules s.old is.before a i (parts_of s.rules s.old a i (exact.slots (question.Attr m j) a i there)).live) (question.Attr m j) (exact.read (question.Attr m j) a i there)).1

    all : (q : Question) (a : AttrId) (i : InstanceId) → is_slot s.rules s.new a i ≡ true → is_fresh s.rules s.old s.new a i ≡ false → Contains (new_reads s a i) q → Contains (readers q) (a, i)
    all q a i slot stale there =
        let two = stale_parts (is_live s.old.live i) (same_options is_same (container_of s.old.live i) (container_of s.new.live i)) (same_lists same_question (slot_reads s.rules s.old a i) (new_reads s a i)) stale in
        let p = parts_of s.rules s.new a i slot in
        let same : slot_reads s.rules s.old a i ≡ new_reads s a i = lists_exact same_question question_exact (slot_reads s.rules s.old a i) (new_reads s a i) two.1 in
        exact.all q a i (slot_is s.rules s.old a i two.0 p.owner p.ruled) (subst (λ (qs : List Question). Contains qs q) (sym same) there)

-- the readers after a change settle it
pub new_can_tell : NewCanTell
new_can_tell s is readers exact = record {
  slots = λ q a i there live. exact.slots q a i there;
  read = λ q a i there live stale. exact.read q a i there;
  higher = λ m j a i there. (each_of_all _ (new_reads s a i) (reads_are_lower s.rules s.new is.after a i (parts_of s.rules s.new a i (exact.slots (question.Attr m j) a i there)).live) (question.Attr m j) (exact.read (question.Attr m j) a i there)).1;
  all = λ q a i slot stale there. exact.all q a i slot there;
}

-- one list that is set or forgotten
pub relisted_is_by_lists : RelistedIsByLists
relisted_is_by_lists r n before after stay = record {
  is = record { before = before; after = after };
  stay = stay;
  answers = λ a i live. relisted_answers (shape_of n.model.now) n.case.now n.rel n.inst.now (option_copied n.names) a i live;
}
