-- What was live before is dirty exactly where something that it could look at differs.
use Rattle.std.proofs.Common.{◌≡◌, ℕ, List, [], ◌∷◌, Bool, true, false, not, Option, None, Some, refl, sym, ◌∙◌, ap}
use Rattle.std.specs.Prelude.{◌||◌, ◌&&◌}
use Rattle.std.specs.List.{list_any, AllByRecursion}
use Rattle.std.proofs.Common.{Contains}
use Rattle.std.proofs.lemmas.Bool.{and_from, or_parts, not-false}
use Rattle.opa_io.proofs.Lists.{each_weaker}
use Rattle.opa_model.specs.declared.ids.AttrId.{AttrId}
use Rattle.opa_model.specs.declared.ids.RelId.{RelId}
use Rattle.opa_cells.specs.Instances.{is_same, named}
use Rattle.opa_cells.specs.declared.instance.InstanceId.{InstanceId}
use Rattle.opa_cells.proofs.Orders.{same_itself}
use Rattle.opa_case.specs.declared.question.Question.{Question}
use Rattle.opa_case.specs.declared.question.Question.TheVariants as question
use Rattle.opa_tree.specs.declared.expr.Expr.{Expr}
use Rattle.opa_tree.specs.declared.rules.Rule.{Rule}
use Rattle.opa_tree.specs.Rules.{rule_of}
use Rattle.opa_mean.specs.Changes.{differs, is_dirty}
use Rattle.opa_mean.specs.Changes as changes
use Rattle.opa_mean.specs.Completion.{AreFacts}
use Rattle.opa_mean.specs.Given.{base_of, facts_of}
use Rattle.opa_mean.specs.Mean.{Base, Facts, IsLive}
use Rattle.opa_mean.specs.Places.{place}
use Rattle.opa_mean.specs.Reads.{reads, reads_of, rule_reads}
use Rattle.opa_mean.specs.Sameness.{same_question, same_lists, same_options, same_names}
use Rattle.opa_mean.proofs.Chains.{chain_same, places_same, place_live}
use Rattle.opa_mean.proofs.Completing.{above_live}
use Rattle.opa_mean.proofs.Everywhere.{all_of_each}
use Rattle.opa_mean.proofs.Exact.{lists_exact, question_exact, names_exact}
use Rattle.opa_mean.proofs.Fitting.{live_in, in_live}
use Rattle.opa_mean.proofs.ChangesAre.{live_passes}
use Rattle.opa_mean.proofs.LawsOver as over
use Rattle.opa_mean.proofs.SameBoth.{question_itself, lists_itself}
use Rattle.opa_mean.proofs.Cleaning.{any_same}
use Rattle.opa_mean.specs.Reached.Dirty.{DirtyByOldReads, DirtyByNewReads, NewIsDirty, ReadsStay}
use Rattle.opa_mean.proofs.reached.Rereading.{reads_kept, SameList}

same_container : (o o' : Option InstanceId) → o' ≡ o → same_options is_same o o' ≡ true
same_container None o' e = ap (same_options is_same None) e
same_container (Some i) o' e = ap (same_options is_same (Some i)) e ∙ same_itself i

-- where nothing that is read differs, no list does
module _ (b : Base) (c c' : Facts) where
  same_list : (Live : InstanceId → Type 0) (q : Question) → differs b c c' q ≡ false → SameList Live c.members c'.members q
  same_list Live (question.Attr a i) h = tt
  same_list Live (question.Members r i) h = λ _. names_exact (c.members r i) (c'.members r i) (not-false (same_names (c.members r i) (c'.members r i)) h)

  same_list_back : (Live : InstanceId → Type 0) (q : Question) → differs b c c' q ≡ false → SameList Live c'.members c.members q
  same_list_back Live (question.Attr a i) h = tt
  same_list_back Live (question.Members r i) h = λ _. sym (names_exact (c.members r i) (c'.members r i) (not-false (same_names (c.members r i) (c'.members r i)) h))

  each_list : (P : Question → Type 0) → ((q : Question) → differs b c c' q ≡ false → P q) → (qs : List Question) → list_any (differs b c c') qs ≡ false → AllByRecursion P qs
  each_list P f [] h = tt
  each_list P f (q ∷ qs) h = let both = or_parts _ _ h in (f q both.0, each_list P f qs both.1)

-- what a slot reads is kept where its lists are
module _ (b : Base) (c c' : Facts) (are : AreFacts b.shape c) (are' : AreFacts b.shape c') (stay : (i : InstanceId) → IsLive c i → IsLive c' i → c'.container i ≡ c.container i) where
  -- live in both cases
  abbrev pub Both : InstanceId → Type 0
  Both i = IsLive c i × IsLive c' i

  above : (i j : InstanceId) → Both i → c.container i ≡ Some j → Both j
  above i j live e = (above_live b.shape c are i j live.0 e, above_live b.shape c' are' i j live.1 (stay i live.0 live.1 ∙ e))

  places : (enclosing : List InstanceId) → AllByRecursion Both enclosing → (e : ℕ) → place c.container enclosing e ≡ place c'.container enclosing e
  places enclosing w e = sym (places_same c.container c'.container enclosing (each_weaker Both _ (λ i h. chain_same c.container Both above c'.container (λ j k. stay j k.0 k.1) i h) enclosing w) e)

  at_both : (enclosing : List InstanceId) → AllByRecursion Both enclosing → (e : ℕ) (i : InstanceId) → place c.container enclosing e ≡ Some i → Both i
  at_both = place_live c.container Both above

  listed_within : (r : RelId) (i : InstanceId) (names : List (List ℕ)) → c.members r i ≡ Some names → c'.members r i ≡ Some names → AllByRecursion (λ n. Both (named (b.shape.target r) n)) names
  listed_within r i names e e' = both names (are.listed r i names e) (are'.listed r i names e')
    where
      both : (names : List (List ℕ)) → AllByRecursion (λ n. IsLive c (named (b.shape.target r) n)) names → AllByRecursion (λ n. IsLive c' (named (b.shape.target r) n)) names → AllByRecursion (λ n. Both (named (b.shape.target r) n)) names
      both [] h h' = tt
      both (n ∷ names) h h' = ((h.0, h'.0), both names h.1 h'.1)

  tree_kept : (e : Expr) (i : InstanceId) → Both i → AllByRecursion (SameList Both c.members c'.members) (reads b.shape c.members c.container e (i ∷ []))
      → reads b.shape c.members c.container e (i ∷ []) ≡ reads b.shape c'.members c'.container e (i ∷ [])
  tree_kept e i live h = reads_kept b.shape c.members c'.members c.container c'.container Both places at_both listed_within e (i ∷ []) (live, tt) h

  pub slot_kept : (a : AttrId) (i : InstanceId) → Both i → AllByRecursion (SameList Both c.members c'.members) (reads_of b c a i) → reads_of b c a i ≡ reads_of b c' a i
  slot_kept a i live h = go (rule_of b.rules a) h
    where
      go : (o : Option Rule) → AllByRecursion (SameList Both c.members c'.members) (rule_reads o (λ e. reads b.shape c.members c.container e (i ∷ [])))
          → rule_reads o (λ e. reads b.shape c.members c.container e (i ∷ [])) ≡ rule_reads o (λ e. reads b.shape c'.members c'.container e (i ∷ []))
      go None h = refl
      go (Some rule) h = tree_kept rule.expr i live h

module _ (b : Base) (c c' : Facts) (are : AreFacts b.shape c) (are' : AreFacts b.shape c') (stay : (i : InstanceId) → IsLive c i → IsLive c' i → c'.container i ≡ c.container i) (a : AttrId) (i : InstanceId) (live : IsLive c i) (live' : IsLive c' i) where
  abbrev Old : List Question
  Old = reads_of b c a i

  abbrev New : List Question
  New = reads_of b c' a i

  -- dirty is then: what is read differs, or something that is read afterwards does
  placed : is_dirty b c c' a i ≡ (not (same_lists same_question Old New) || list_any (differs b c c') New)
  placed = ap (λ x. not x || (not (same_lists same_question Old New) || list_any (differs b c c') New))
      (and_from (changes.is_live c i) (same_options is_same (c.container i) (c'.container i)) (live_passes i c.instances live) (same_container (c.container i) (c'.container i) (stay i live live')))

  when_same : Old ≡ New → is_dirty b c c' a i ≡ list_any (differs b c c') New
  when_same same = placed ∙ ap (λ x. not x || list_any (differs b c c') New) (ap (same_lists same_question Old) (sym same) ∙ lists_itself same_question question_itself Old)

  pub by_old : is_dirty b c c' a i ≡ list_any (differs b c c') Old
  by_old = go (list_any (differs b c c') Old) refl
    where
      go : (d : Bool) → list_any (differs b c c') Old ≡ d → is_dirty b c c' a i ≡ d
      go false none =
          let same : Old ≡ New = slot_kept b c c' are are' stay a i (live, live') (each_list b c c' (SameList (λ j. IsLive c j × IsLive c' j) c.members c'.members) (same_list b c c' (λ j. IsLive c j × IsLive c' j)) Old none) in
          when_same same ∙ ap (list_any (differs b c c')) (sym same) ∙ none
      go true some = at (same_lists same_question Old New) refl
        where
          at : (s : Bool) → same_lists same_question Old New ≡ s → is_dirty b c c' a i ≡ true
          at true e = let same : Old ≡ New = lists_exact same_question question_exact Old New e in when_same same ∙ ap (list_any (differs b c c')) (sym same) ∙ some
          at false e = placed ∙ ap (λ x. not x || list_any (differs b c c') New) e

  pub by_new : is_dirty b c c' a i ≡ list_any (differs b c c') New
  by_new = go (list_any (differs b c c') New) refl
    where
      or_true : (x : Bool) → (x || true) ≡ true
      or_true true = refl
      or_true false = refl

      go : (d : Bool) → list_any (differs b c c') New ≡ d → is_dirty b c c' a i ≡ d
      go false none =
          let same : New ≡ Old = slot_kept b c' c are' are (λ j l' l. sym (stay j l l')) a i (live', live) (each_list b c c' (SameList (λ j. IsLive c' j × IsLive c j) c'.members c.members) (same_list_back b c c' (λ j. IsLive c' j × IsLive c j)) New none) in
          when_same (sym same) ∙ none
      go true some = placed ∙ ap (λ x. not (same_lists same_question Old New) || x) some ∙ or_true (not (same_lists same_question Old New))

pub dirty_by_old_reads : DirtyByOldReads
dirty_by_old_reads r c c' is is' keep a i live live' =
    by_old (base_of r) (facts_of c) (facts_of c') (over.facts r c is) (over.facts r c' is') (λ j l l'. keep j (in_live c j l) (in_live c' j l')) a i (live_in c i live) (live_in c' i live')

pub dirty_by_new_reads : DirtyByNewReads
dirty_by_new_reads r c c' is is' keep a i live live' =
    by_new (base_of r) (facts_of c) (facts_of c') (over.facts r c is) (over.facts r c' is') (λ j l l'. keep j (in_live c j l) (in_live c' j l')) a i (live_in c i live) (live_in c' i live')

-- an instance that isn't among the live ones fails the test
pub new_is_dirty : NewIsDirty
new_is_dirty r c c' a i new = go (changes.is_live (facts_of c) i) (told (changes.is_live (facts_of c) i) refl)
  where
    told : (x : Bool) → changes.is_live (facts_of c) i ≡ x → x ≡ false
    told true e = absurd (cc (new, in_live c i (any_same i (facts_of c).instances e)))
    told false e = refl

    go : (x : Bool) → x ≡ false → not (x && same_options is_same ((facts_of c).container i) ((facts_of c').container i)) || (not (same_lists same_question (reads_of (base_of r) (facts_of c) a i) (reads_of (base_of r) (facts_of c') a i)) || list_any (differs (base_of r) (facts_of c) (facts_of c')) (reads_of (base_of r) (facts_of c') a i)) ≡ true
    go true e = absurd (cc e)
    go false e = refl

pub reads_stay : ReadsStay
reads_stay r c c' is is' keep a i live live' same =
    slot_kept (base_of r) (facts_of c) (facts_of c') (over.facts r c is) (over.facts r c' is') (λ j l l'. keep j (in_live c j l) (in_live c' j l')) a i (live_in c i live, live_in c' i live')
    (all_of_each _ (reads_of (base_of r) (facts_of c) a i) one)
  where
    one : (q : Question) → Contains (reads_of (base_of r) (facts_of c) a i) q → SameList (λ j. IsLive (facts_of c) j × IsLive (facts_of c') j) (facts_of c).members (facts_of c').members q
    one (question.Attr m j) there = tt
    one (question.Members q j) there = λ _. names_exact ((facts_of c).members q j) ((facts_of c').members q j) (not-false (same_names ((facts_of c).members q j) ((facts_of c').members q j)) (same q j there))
