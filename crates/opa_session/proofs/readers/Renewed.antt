-- What another case makes new, one by one.
use Rattle.std.proofs.Common.{◌≡◌, ◌⊎◌, inl, inr, ℕ, ◌+◌, ◌<◌, Bool, true, false, cond, not, List, [], ◌∷◌, ◌++◌, length, get_or, take, map, Option, None, Some, is_some, Contains, refl, sym, ◌∙◌, ap, subst}
use Rattle.std.specs.Prelude.{◌&&◌, flat_map}
use Rattle.std.specs.FinMap.{get}
use denote.Ref.{Bor}
use Rattle.std.proofs.lemmas.Bool.{and_parts, and_from}
use Rattle.std.proofs.lemmas.List.{append-nil, take_more}
use Rattle.std.proofs.lemmas.List.Elements.{filter-append, Contains-append_left, Contains-append_right, Contains-append_cases}
use Rattle.opa_date.specs.declared.TheConstants.{DAYS}
use Rattle.opa_model.specs.declared.ids.AttrId.{AttrId}
use Rattle.opa_cells.specs.Rows.{seen}
use Rattle.opa_cells.specs.Unordered.{HasCells}
use Rattle.opa_cells.specs.declared.instance.InstanceId.{InstanceId}
use Rattle.opa_case.specs.Cases.{Answer, CaseView, list_of}
use Rattle.opa_case.specs.declared.question.Question.{Question}
use Rattle.opa_case.specs.declared.question.Question.TheVariants as question
use Rattle.opa_mean.specs.Reached.Dirty.{is_changed, is_fresh, AnswersDiffer}
use Rattle.opa_mean.specs.Reached.Settling.{is_given}
use Rattle.opa_mean.specs.Reached.Slots.{pairs_of, slots_in}
use Rattle.std.specs.BTreeSet.{BTreeSet}
use Rattle.opa_mean.specs.declared.reached.slot.Slot.{Slot}
use Rattle.opa_mean.specs.Changes.{first_difference}
use Rattle.opa_mean.specs.Given.{line_value}
use Rattle.opa_mean.specs.Rulebases.{IsOf}
use Rattle.opa_mean.specs.Sameness.{same_names}
use Rattle.opa_mean.proofs.ChangesAre.{no_difference}
use Rattle.opa_tree.specs.Rules.{rule_of}
use Rattle.opa_tree.specs.declared.rulebase.Rulebase.{Rulebase}
use Rattle.opa_tree.proofs.Members.{none_in, contains_head, contains_cases, flat_in, flat_out}
use Rattle.opa_session.specs.Readers.Indexes.{Table, slots_at, readers_in}
use Rattle.opa_session.specs.Readers.Renewing.{fresh_among, attr_at, rel_at, answer_told, newly_told, list_told, AreAnswersTold, AreGiven}
use Rattle.opa_session.specs.declared.readers.index.Index.{Index}
use Rattle.opa_session.proofs.settlement.Marking.{pairs-append}

-- ---- slots

pub adds_fresh : (r : Rulebase) (c c' : CaseView) (a : AttrId) (i : InstanceId) (t : Bool) (old new : List Slot) (s : Slot) → t ≡ is_fresh r c c' a i → t ≡ true → new ≡ old ++ s ∷ [] → s.attr ≡ a → s.inst ≡ i
    → pairs_of new ≡ pairs_of old ++ fresh_among r c c' ((a, i) ∷ [])
adds_fresh r c c' a i t old new s is on more ea ei =
    ap pairs_of more ∙ pairs-append old (s ∷ [])
    ∙ ap (λ (b : AttrId). pairs_of old ++ (let x : AttrId × InstanceId = (b, s.inst) in x ∷ [])) ea
    ∙ ap (λ (j : InstanceId). pairs_of old ++ (let x : AttrId × InstanceId = (a, j) in x ∷ [])) ei
    ∙ ap (λ (b : Bool). pairs_of old ++ cond b (let x : AttrId × InstanceId = (a, i) in x ∷ []) []) (sym (sym is ∙ on))

pub adds_stale : (r : Rulebase) (c c' : CaseView) (a : AttrId) (i : InstanceId) (t : Bool) (old : List Slot) → t ≡ is_fresh r c c' a i → t ≡ false → pairs_of old ≡ pairs_of old ++ fresh_among r c c' ((a, i) ∷ [])
adds_stale r c c' a i t old is off =
    sym (append-nil (pairs_of old)) ∙ ap (λ (b : Bool). pairs_of old ++ cond b (let x : AttrId × InstanceId = (a, i) in x ∷ []) []) (sym (sym is ∙ off))

pub fresh_next : (r : Rulebase) (c c' : CaseView) (slots : List (AttrId × InstanceId)) (k : ℕ) (s : AttrId × InstanceId) (old new : List Slot) → k < length slots → s ≡ get_or slots k s → pairs_of old ≡ fresh_among r c c' (take k slots)
    → pairs_of new ≡ pairs_of old ++ fresh_among r c c' (s ∷ []) → pairs_of new ≡ fresh_among r c c' (take (k + 1) slots)
fresh_next r c c' slots k s old new lt is before next =
    next ∙ ap (λ xs. xs ++ fresh_among r c c' (s ∷ [])) before
    ∙ sym (ap (fresh_among r c c') (take_more slots k s lt ∙ ap (λ z. take k slots ++ z ∷ []) (sym is)) ∙ filter-append (λ (x : AttrId × InstanceId). is_fresh r c c' x.0 x.1) (take k slots) (s ∷ []))

-- ---- questions

-- where a slot stands, there is a set of slots
slot_at : (m : Table) (k : ℕ × InstanceId) (x : AttrId × InstanceId) → Contains (slots_at m k) x → (v : BTreeSet Slot) × (get m k ≡ Some v)
slot_at m k x h = go (get m k) refl h
  where
    go : (o : Option (BTreeSet Slot)) → get m k ≡ o → Contains (pairs_of (slots_in o)) x → (v : BTreeSet Slot) × (get m k ≡ Some v)
    go None e g = absurd (none_in x g)
    go (Some v) e g = (v, e)

-- cells that are lent, as entries
flat_seen : {V : Type 0} (f : ℕ × InstanceId → List Question) (cells : List (ℕ × Bor InstanceId × Bor V)) → flat_map (λ x. f (x.0, x.1.now)) cells ≡ flat_map (λ (e : (ℕ × InstanceId) × V). f e.0) (map seen cells)
flat_seen f [] = refl
flat_seen f (x ∷ cells) = ap (λ qs. f (x.0, x.1.now) ++ qs) (flat_seen f cells)

pub in_if : (t : Bool) (p q : Question) → Contains (cond t (p ∷ []) []) q → (t ≡ true) × (p ≡ q)
in_if true p q h = (refl, one (contains_cases p q [] h))
  where
    one : (p ≡ q) ⊎ Contains [] q → p ≡ q
    one (inl e) = e
    one (inr none) = absurd (none_in q none)
in_if false p q h = absurd (none_in q h)

pub if_in : (t : Bool) (q : Question) → t ≡ true → Contains (cond t (q ∷ []) []) q
if_in t q e = subst (λ (b : Bool). Contains (cond b (q ∷ []) []) q) (sym e) (contains_head q [])

pub not_so : (b : Bool) → not b ≡ true → b ≡ false
not_so false h = refl
not_so true h = absurd (cc h)

module _ (r : Rulebase) (c c' : CaseView) where
  abbrev given_too : Question → Type 0
  given_too q = (is_given r q ≡ true) × (is_changed r c c' q ≡ true)

  module _ (law : AnswersDiffer) (is : IsOf r c) (is' : IsOf r c') where
    answer_out : (k : ℕ × InstanceId) (q : Question) → Contains (answer_told r c c' k) q → given_too q
    answer_out k q h =
        let one = in_if _ (question.Attr (attr_at k.0) k.1) q h in
        let both = and_parts (not (is_some (rule_of r.rules (attr_at k.0)))) _ one.0 in
        subst given_too one.1 (both.0, law r c c' is is' (attr_at k.0) k.1 (not_so (is_some (rule_of r.rules (attr_at k.0))) both.0) ∙ both.1)

    newly_out : (k : ℕ × InstanceId) (q : Question) → Contains (newly_told r c c' k) q → given_too q
    newly_out k q h = go (is_some (get c.answers k)) h
      where
        go : (b : Bool) → Contains (cond b [] (answer_told r c c' k)) q → given_too q
        go true none = absurd (none_in q none)
        go false there = answer_out k q there

    module _ (a : AttrId) (i : InstanceId) (g : is_given r (question.Attr a i) ≡ true) (h : is_changed r c c' (question.Attr a i) ≡ true) where
      abbrev differing : Option Answer → Option Answer → Bool
      differing o o' = is_some (first_difference DAYS (line_value o) (line_value o'))

      does_differ : differing (get c.answers (a.0, i)) (get c'.answers (a.0, i)) ≡ true
      does_differ = sym (law r c c' is is' a i (not_so (is_some (rule_of r.rules a)) g)) ∙ h

      answer_in : Contains (answer_told r c c' (a.0, i)) (question.Attr a i)
      answer_in =
          if_in (not (is_some (rule_of r.rules a)) && differing (get c.answers (a.0, i)) (get c'.answers (a.0, i))) (question.Attr a i)
          (and_from (not (is_some (rule_of r.rules a))) _ g does_differ)

      newly_in : get c.answers (a.0, i) ≡ None → Contains (newly_told r c c' (a.0, i)) (question.Attr a i)
      newly_in e = subst (λ (b : Bool). Contains (cond b [] (answer_told r c c' (a.0, i))) (question.Attr a i)) (sym (ap is_some e)) answer_in

      one_answers : get c.answers (a.0, i) ≡ None → get c'.answers (a.0, i) ≡ None → ⊥
      one_answers e e' =
          cc (sym does_differ ∙ ap (λ o. differing o (get c'.answers (a.0, i))) e ∙ ap (differing None) e' ∙ ap is_some (no_difference DAYS (line_value None)))

    module _ (es es' : List ((ℕ × InstanceId) × Answer)) (has : HasCells c.answers es) (has' : HasCells c'.answers es') where
      abbrev before : List Question
      before = flat_map (λ (e : (ℕ × InstanceId) × Answer). answer_told r c c' e.0) es

      abbrev newly : List Question
      newly = flat_map (λ (e : (ℕ × InstanceId) × Answer). newly_told r c c' e.0) es'

      out : (q : Question) → Contains before q ⊎ Contains newly q → given_too q
      out q (inl h) = let e = flat_out (λ (e : (ℕ × InstanceId) × Answer). answer_told r c c' e.0) es q h in answer_out e.0.0 q e.1.1
      out q (inr h) = let e = flat_out (λ (e : (ℕ × InstanceId) × Answer). newly_told r c c' e.0) es' q h in newly_out e.0.0 q e.1.1

      into : (a : AttrId) (i : InstanceId) → is_given r (question.Attr a i) ≡ true → is_changed r c c' (question.Attr a i) ≡ true → Contains (before ++ newly) (question.Attr a i)
      into a i g h = go (get c.answers (a.0, i)) refl
        where
          then : get c.answers (a.0, i) ≡ None → (o : Option Answer) → get c'.answers (a.0, i) ≡ o → Contains newly (question.Attr a i)
          then e None e' = absurd (one_answers a i g h e e')
          then e (Some v) e' = flat_in (λ (x : (ℕ × InstanceId) × Answer). newly_told r c c' x.0) es' ((a.0, i), v) (question.Attr a i) (has' (a.0, i) v e') (newly_in a i g h e)

          go : (o : Option Answer) → get c.answers (a.0, i) ≡ o → Contains (before ++ newly) (question.Attr a i)
          go None e = Contains-append_right before newly (question.Attr a i) (then e (get c'.answers (a.0, i)) refl)
          go (Some v) e =
              Contains-append_left before newly (question.Attr a i)
              (flat_in (λ (x : (ℕ × InstanceId) × Answer). answer_told r c c' x.0) es ((a.0, i), v) (question.Attr a i) (has (a.0, i) v e) (answer_in a i g h))

      all_told : (told : List Question) → told ≡ before ++ newly → AreAnswersTold r c c' told
      all_told told are = record {
        given = λ q h. (out q (Contains-append_cases before newly q (subst (λ qs. Contains qs q) are h))).0;
        differ = λ q h. (out q (Contains-append_cases before newly q (subst (λ qs. Contains qs q) are h))).1;
        all = λ a i g h. subst (λ qs. Contains qs (question.Attr a i)) (sym are) (into a i g h);
      }

    pub are_answers_told : (first then : List (ℕ × Bor InstanceId × Bor Answer)) (none mid told : List Question) → HasCells c.answers (map seen first) → HasCells c'.answers (map seen then) → none ≡ []
        → mid ≡ none ++ flat_map (λ x. answer_told r c c' (x.0, x.1.now)) first → told ≡ mid ++ flat_map (λ x. newly_told r c c' (x.0, x.1.now)) then → AreAnswersTold r c c' told
    are_answers_told first then none mid told ef et en em e = all_told (map seen first) (map seen then) ef et told
        (e ∙ ap (λ qs. mid ++ qs) (flat_seen (newly_told r c c') then)
        ∙ ap (λ qs. qs ++ newly (map seen first) (map seen then) ef et) (em ∙ ap (λ qs. qs ++ flat_map (λ x. answer_told r c c' (x.0, x.1.now)) first) en ∙ flat_seen (answer_told r c c') first))

  list_out : (k : ℕ × InstanceId) (q : Question) → Contains (list_told c c' k) q → given_too q
  list_out k q h = let one = in_if _ (question.Members (rel_at k.0) k.1) q h in subst given_too one.1 (refl, one.0)

  module _ (index : Index) (answers : List Question) (tell : AreAnswersTold r c c' answers) (es : List ((ℕ × InstanceId) × BTreeSet Slot)) (has : HasCells index.lists es) where
    abbrev lists : List Question
    lists = flat_map (λ (e : (ℕ × InstanceId) × BTreeSet Slot). list_told c c' e.0) es

    given_out : (q : Question) → Contains answers q ⊎ Contains lists q → given_too q
    given_out q (inl h) = (tell.given q h, tell.differ q h)
    given_out q (inr h) = let e = flat_out (λ (e : (ℕ × InstanceId) × BTreeSet Slot). list_told c c' e.0) es q h in list_out e.0.0 q e.1.1

    given_into : (q : Question) (x : AttrId × InstanceId) → Contains (readers_in index q) x → is_given r q ≡ true → is_changed r c c' q ≡ true → Contains (answers ++ lists) q
    given_into (question.Attr a i) x there g h = Contains-append_left answers lists (question.Attr a i) (tell.all a i g h)
    given_into (question.Members m i) x there g h =
        let e = slot_at index.lists (m.0, i) x there in
        Contains-append_right answers lists (question.Members m i) (flat_in (λ (e : (ℕ × InstanceId) × BTreeSet Slot). list_told c c' e.0) es ((m.0, i), e.0) (question.Members m i) (has (m.0, i) e.0 e.1)
        (if_in (not (same_names (list_of c m i) (list_of c' m i))) (question.Members m i) h))

    all_given : (told : List Question) → told ≡ answers ++ lists → AreGiven r c c' (readers_in index) told
    all_given told are = record {
      given = λ q h. (given_out q (Contains-append_cases answers lists q (subst (λ qs. Contains qs q) are h))).0;
      differ = λ q h. (given_out q (Contains-append_cases answers lists q (subst (λ qs. Contains qs q) are h))).1;
      all = λ q x there g h. subst (λ qs. Contains qs q) (sym are) (given_into q x there g h);
    }

  pub are_given : (index : Index) (answers : List Question) → AreAnswersTold r c c' answers → (by_list : List (ℕ × Bor InstanceId × Bor (BTreeSet Slot))) (told : List Question) → HasCells index.lists (map seen by_list) → told ≡ answers ++ flat_map (λ x. list_told c c' (x.0, x.1.now)) by_list → AreGiven r c c' (readers_in index) told
  are_given index answers tell by_list told has et = all_given index answers tell (map seen by_list) has told (et ∙ ap (λ qs. answers ++ qs) (flat_seen (list_told c c') by_list))
