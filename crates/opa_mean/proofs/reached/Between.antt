-- What is reached from one case to another is no more than what is reached over a case between them.
use Rattle.std.proofs.Common.{◌≡◌, ◌≢◌, ◌⊎◌, inl, inr, ℕ, suc, ◌+◌, ◌≤◌, Bool, true, false, cond, not, List, [], ◌∷◌, length, filter, AllPairs, Contains, Option, None, Some, is_some, refl, sym, ◌∙◌, ap, subst, arith}
use Rattle.std.specs.Prelude.{◌||◌, ◌&&◌, ◌==◌}
use Rattle.std.specs.List.{list_any}
use Rattle.std.proofs.lemmas.Bool.{and_from, and_parts, or_parts, not-false, eq-eqb}
use Rattle.std.proofs.lemmas.List.Kept.{AllPairs-filter}
use Rattle.opa_io.proofs.Options.{none_is}
use Rattle.opa_date.specs.declared.TheConstants.{DAYS}
use Rattle.opa_value.specs.declared.value.Value.{Value}
use Rattle.opa_model.specs.declared.ids.AttrId.{AttrId}
use Rattle.opa_cells.specs.Instances.{is_same}
use Rattle.opa_cells.specs.declared.instance.InstanceId.{InstanceId}
use Rattle.opa_cells.proofs.Orders.{same_itself}
use Rattle.opa_case.specs.Cases.{CaseView}
use Rattle.opa_case.specs.Live as live
use Rattle.opa_case.specs.Shapes.{shape_of}
use Rattle.opa_case.specs.declared.question.Question.{Question}
use Rattle.opa_case.specs.declared.question.Question.TheVariants as question
use Rattle.opa_tree.specs.declared.rulebase.Rulebase.{Rulebase}
use Rattle.opa_tree.specs.Rules.{rule_of}
use Rattle.opa_tree.proofs.Members.{none_in, contains_head, contains_tail, contains_cases}
use Rattle.opa_mean.specs.Changes.{first_difference, differs, is_live, is_dirty, dirty, slots}
use Rattle.opa_mean.specs.Given.{base_of, facts_of}
use Rattle.opa_mean.specs.Mean.{Base, Facts, mean}
use Rattle.opa_mean.specs.Places.{owner_of}
use Rattle.opa_mean.specs.Reads.{reads_of}
use Rattle.opa_mean.specs.Rulebases.{IsOf}
use Rattle.opa_mean.specs.Sameness.{same_question, same_lists, same_names, same_options}
use Rattle.opa_mean.proofs.ChangesAre.{difference_found, nothing_dirty}
use Rattle.opa_mean.proofs.Cleaning.{any_same, same_where_none}
use Rattle.opa_mean.proofs.Exact.{lists_exact, question_exact, names_exact, options_exact}
use Rattle.opa_mean.proofs.Filtered.{filter_out, filter_in}
use Rattle.opa_mean.proofs.Fitting.{in_live}
use Rattle.opa_mean.proofs.SameBoth.{question_itself, names_itself, lists_itself, options_itself}
use Rattle.opa_mean.proofs.SlotsAre.{out_slots, slots_are_live, slots_once}
use Rattle.opa_cells.proofs.Orders.{same_is}

-- ---- how many items there are

module _ {X : Type 0} where
  -- a list without one of its items
  record Rest (ys : List X) (x : X) : Type 0 where
    pub others : List X
    pub long : length ys ≡ length others + 1
    pub stay : (y : X) → Contains ys y → y ≢ x → Contains others y

  without : (ys : List X) (x : X) → Contains ys x → Rest ys x
  without [] x h = absurd (none_in x h)
  without (y ∷ ys) x h = go (contains_cases y x ys h) (without ys x)
    where
      go : (y ≡ x) ⊎ Contains ys x → (Contains ys x → Rest ys x) → Rest (y ∷ ys) x
      go (inl same) rest = record { others = ys; long = omega arith; stay = λ z there other. behind z other (contains_cases y z ys there) }
        where
          behind : (z : X) → z ≢ x → (y ≡ z) ⊎ Contains ys z → Contains ys z
          behind z other (inl e) = absurd (other (sym e ∙ same))
          behind z other (inr k) = k
      go (inr there) rest =
          let r = rest there in
          record { others = y ∷ r.others; long = omega (arith, r.long); stay = λ z k other. both z r other (contains_cases y z ys k) }
        where
          both : (z : X) (r : Rest ys x) → z ≢ x → (y ≡ z) ⊎ Contains ys z → Contains (y ∷ r.others) z
          both z r other (inl e) = subst (Contains (y ∷ r.others)) e (contains_head y r.others)
          both z r other (inr k) = contains_tail y z r.others (r.stay z k other)

  first_apart : (x y : X) (xs : List X) → AllPairs (λ a b. a ≢ b) (x ∷ xs) → Contains xs y → x ≢ y
  first_apart x y xs apart (k, lt, is) = λ e. apart 0 (suc k) y (omega arith) (omega (arith, lt)) (e ∙ sym is)

  others_apart : (x : X) (xs : List X) → AllPairs (λ a b. a ≢ b) (x ∷ xs) → AllPairs (λ a b. a ≢ b) xs
  others_apart x xs apart i j d lt inside = apart (suc i) (suc j) d (omega (arith, lt)) (omega (arith, inside))

  -- items that all differ are no more than those that they are among
  pub no_more : (xs ys : List X) → AllPairs (λ a b. a ≢ b) xs → ((x : X) → Contains xs x → Contains ys x) → length xs ≤ length ys
  no_more [] ys apart among = omega arith
  no_more (x ∷ xs) ys apart among =
      let r = without ys x (among x (contains_head x xs)) in
      let few = no_more xs r.others (others_apart x xs apart) (λ y k. r.stay y (among y (contains_tail x y xs k)) (λ e. first_apart x y xs apart k (sym e))) in
      omega (arith, few, r.long)

  module _ (p q : X → Bool) where
    abbrev only : X → Bool
    only x = p x && not (q x)

    in_two : (xs : List X) → length (filter p xs) ≤ length (filter q xs) + length (filter only xs)
    in_two [] = omega arith
    in_two (x ∷ xs) = go (p x) (q x) (in_two xs)
      where
        go : (b c : Bool) → length (filter p xs) ≤ length (filter q xs) + length (filter only xs)
            → length (cond b (x ∷ filter p xs) (filter p xs)) ≤ length (cond c (x ∷ filter q xs) (filter q xs)) + length (cond (b && not c) (x ∷ filter only xs) (filter only xs))
        go true true rest = omega (arith, rest)
        go true false rest = omega (arith, rest)
        go false true rest = omega (arith, rest)
        go false false rest = omega (arith, rest)

    -- items that all differ and pass one test pass a second one too or are among others
    pub parted : (xs ys : List X) → AllPairs (λ a b. a ≢ b) xs → ((x : X) → Contains xs x → p x ≡ true → q x ≡ false → Contains ys x) → length (filter p xs) ≤ length ys + length (filter q xs)
    parted xs ys apart among =
        let two = in_two xs in
        let few = no_more (filter only xs) ys (AllPairs-filter (λ a b. a ≢ b) only xs apart) (λ x h. go x (filter_out only xs x h)) in
        omega (arith, two, few)
      where
        go : (x : X) → Contains xs x × (only x ≡ true) → Contains ys x
        go x (there, passes) = let both = and_parts (p x) (not (q x)) passes in among x there both.0 (fails (q x) both.1)
          where
            fails : (b : Bool) → not b ≡ true → b ≡ false
            fails true e = absurd (cc e)
            fails false e = refl

-- ---- a slot that isn't reached

module _ (b : Base) (c c' : Facts) (a : AttrId) (i : InstanceId) where
  record IsClean : Type 0 where
    pub lives : is_live c i ≡ true
    pub stays : c.container i ≡ c'.container i
    pub reads : reads_of b c a i ≡ reads_of b c' a i
    pub same : list_any (differs b c c') (reads_of b c' a i) ≡ false

  clean : is_dirty b c c' a i ≡ false → IsClean
  clean e =
      let one = or_parts _ _ e in
      let two = or_parts _ _ one.1 in
      let kept = and_parts _ _ (not-false _ one.0) in
      record {
        lives = kept.0;
        stays = options_exact is_same same_is (c.container i) (c'.container i) kept.1;
        reads = lists_exact same_question question_exact (reads_of b c a i) (reads_of b c' a i) (not-false _ two.0);
        same = two.1;
      }

  not_dirty : IsClean → is_dirty b c c' a i ≡ false
  not_dirty x =
      ap (λ t. not (t && same_options is_same (c.container i) (c'.container i)) || (not (same_lists same_question (reads_of b c a i) (reads_of b c' a i)) || list_any (differs b c c') (reads_of b c' a i))) x.lives
      ∙ ap (λ t. not t || (not (same_lists same_question (reads_of b c a i) (reads_of b c' a i)) || list_any (differs b c c') (reads_of b c' a i)))
      (ap (same_options is_same (c.container i)) (sym x.stays) ∙ options_itself is_same same_itself (c.container i))
      ∙ ap (λ t. not t || list_any (differs b c c') (reads_of b c' a i)) (ap (same_lists same_question (reads_of b c a i)) (sym x.reads) ∙ lists_itself same_question question_itself (reads_of b c a i))
      ∙ x.same

no_difference : (end : ℕ) (f g h : ℕ → Value) → first_difference end f g ≡ None → first_difference end g h ≡ None → first_difference end f h ≡ None
no_difference end f g h one two = go (first_difference end f h) refl
  where
    go : (o : Option ℕ) → first_difference end f h ≡ o → first_difference end f h ≡ None
    go None e = e
    go (Some d) e = let found = difference_found end f h d e in absurd (found.1 (same_where_none end f g one d found.0 ∙ same_where_none end g h two d found.0))

-- over a case between
module _ (b : Base) (c d e : Facts) where
  none_differs : (q : Question) → differs b c d q ≡ false → differs b d e q ≡ false → differs b c e q ≡ false
  none_differs (question.Attr a i) one two =
      ap is_some (no_difference DAYS (mean b c a i) (mean b d a i) (mean b e a i) (none_is (first_difference DAYS (mean b c a i) (mean b d a i)) one) (none_is (first_difference DAYS (mean b d a i) (mean b e a i)) two))
  none_differs (question.Members r i) one two =
      let same : c.members r i ≡ e.members r i =
      names_exact (c.members r i) (d.members r i) (not-false (same_names (c.members r i) (d.members r i)) one)
      ∙ names_exact (d.members r i) (e.members r i) (not-false (same_names (d.members r i) (e.members r i)) two) in
      ap not (ap (same_names (c.members r i)) (sym same) ∙ names_itself (c.members r i))

  no_one_differs : (qs : List Question) → list_any (differs b c d) qs ≡ false → list_any (differs b d e) qs ≡ false → list_any (differs b c e) qs ≡ false
  no_one_differs [] one two = refl
  no_one_differs (q ∷ qs) one two =
      let x = or_parts _ _ one in
      let y = or_parts _ _ two in
      ap (λ t. t || list_any (differs b c e) qs) (none_differs q x.0 y.0) ∙ no_one_differs qs x.1 y.1

  clean_over : (a : AttrId) (i : InstanceId) → IsClean b c d a i → IsClean b d e a i → IsClean b c e a i
  clean_over a i x y = record {
    lives = x.lives;
    stays = x.stays ∙ y.stays;
    reads = x.reads ∙ y.reads;
    same = no_one_differs (reads_of b e a i) (subst (λ qs. list_any (differs b c d) qs ≡ false) y.reads x.same) y.same;
  }

-- ---- what is reached

module _ (r : Rulebase) (c d e : CaseView) (at : IsOf r d) (to : IsOf r e) where
  abbrev base : Base
  base = base_of r

  abbrev before : AttrId × InstanceId → Bool
  before s = is_dirty base (facts_of c) (facts_of d) s.0 s.1

  abbrev after : AttrId × InstanceId → Bool
  after s = is_dirty base (facts_of d) (facts_of e) s.0 s.1

  abbrev whole : AttrId × InstanceId → Bool
  whole s = is_dirty base (facts_of c) (facts_of e) s.0 s.1

  -- a slot that isn't reached is a slot before
  was_slot : (a : AttrId) (i : InstanceId) → Contains (slots base (facts_of e)) (a, i) → is_live (facts_of d) i ≡ true → Contains (slots base (facts_of d)) (a, i)
  was_slot a i there lives =
      let k = out_slots base (facts_of e) (a, i) there in
      (slots_are_live r d at a i).1
      (and_from (live.is_live d.live i && (i.entity.0 == owner_of (shape_of r.model) a)) (is_some (rule_of r.rules a))
      (and_from (live.is_live d.live i) (i.entity.0 == owner_of (shape_of r.model) a) (in_live d i (any_same i (facts_of d).instances lives)) (eq-eqb i.entity.0 (owner_of (shape_of r.model) a) k.1.1)) k.0)

  reached_before : (a : AttrId) (i : InstanceId) → Contains (slots base (facts_of e)) (a, i) → whole (a, i) ≡ true → IsClean base (facts_of d) (facts_of e) a i → Contains (filter before (slots base (facts_of d))) (a, i)
  reached_before a i there passes y = filter_in before (slots base (facts_of d)) (a, i) (was_slot a i there y.lives) (go (before (a, i)) refl)
    where
      go : (t : Bool) → before (a, i) ≡ t → before (a, i) ≡ true
      go true h = h
      go false h = absurd (let none = not_dirty base (facts_of c) (facts_of e) a i (clean_over base (facts_of c) (facts_of d) (facts_of e) a i (clean base (facts_of c) (facts_of d) a i h) y) in cc (passes, none))

  pub dirty_over : dirty base (facts_of c) (facts_of e) ≤ dirty base (facts_of c) (facts_of d) + dirty base (facts_of d) (facts_of e)
  dirty_over =
      parted whole after (slots base (facts_of e)) (filter before (slots base (facts_of d))) (slots_once r e to)
      (λ s there passes fails. reached_before s.0 s.1 there passes (clean base (facts_of d) (facts_of e) s.0 s.1 fails))

-- from a case to itself nothing is reached
pub dirty_nowhere : (r : Rulebase) (c : CaseView) → dirty (base_of r) (facts_of c) (facts_of c) ≡ 0
dirty_nowhere r c = nothing_dirty (base_of r) (facts_of c)
