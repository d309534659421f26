-- What changes between two cases, and that nothing does from a case to itself.
use Rattle.std.proofs.Common.{◌≡◌, ◌≢◌, ◌⊎◌, inl, inr, ℕ, zero, suc, ◌+◌, ◌<◌, ◌≤◌, Bool, true, false, cond, not, List, [], ◌∷◌, length, Contains, Option, None, Some, is_some, refl, sym, ◌∙◌, ap, subst, arith}
use Rattle.std.specs.Prelude.{find, ◌||◌, ◌&&◌}
use Rattle.std.specs.List.{list_any}
use Rattle.std.specs.Option.{option_map}
use Rattle.std.proofs.lemmas.Bool.{cases_lt, not-true, not-false, or_right, or_left}
use Rattle.opa_date.specs.declared.TheConstants.{DAYS}
use Rattle.opa_value.specs.declared.value.Value.{Value}
use Rattle.opa_value.specs.declared.value.Value.TheVariants.{Unknown}
use Rattle.opa_line.specs.Lines.{StandsFor}
use Rattle.opa_line.proofs.LineLaws.{canon_is_the_line}
use Rattle.opa_model.specs.declared.ids.AttrId.{AttrId}
use Rattle.opa_cells.specs.Instances.{is_same}
use Rattle.opa_cells.specs.declared.instance.InstanceId.{InstanceId}
use Rattle.opa_cells.proofs.Orders.{same_itself}
use Rattle.opa_case.specs.Cases.{CaseView}
use Rattle.opa_case.specs.declared.question.Question.{Question}
use Rattle.opa_case.specs.declared.question.Question.TheVariants as question
use Rattle.opa_tree.specs.declared.rulebase.Rulebase.{Rulebase}
use Rattle.opa_tree.proofs.Members.{none_in, contains_cases}
use Rattle.opa_window.specs.Days.{days}
use Rattle.opa_mean.specs.Changes.{first_difference, slots, differs, is_dirty, dirty, Changed, value_before, change_of, changes}
use Rattle.opa_mean.specs.Given.{base_of, facts_of}
use Rattle.opa_mean.specs.Mean.{Base, Facts, mean}
use Rattle.opa_mean.specs.Reads.{reads_of}
use Rattle.opa_mean.specs.Rulebases.{IsOf, value_at}
use Rattle.opa_mean.specs.Sameness.{same_value, same_question, same_lists, same_options}
use Rattle.opa_mean.specs.SlotLaws.{LineIsOne, NothingIsDirty, NothingChanges, IsChange, ChangesAre}
use Rattle.opa_mean.specs.Slots.{is_slot}
use Rattle.opa_mean.proofs.Cleaning.{none_of}
use Rattle.opa_mean.proofs.Exact.{value_exact}
use Rattle.opa_mean.proofs.Filtered.{filter_none, filter_map_none, filter_map_out, filter_map_in}
use Rattle.opa_mean.proofs.SameBoth.{sameness_is_exact, question_itself, names_itself, lists_itself, options_itself}
use Rattle.opa_mean.proofs.SlotsAre.{out_slots, slots_are_live}

pub line_is_one : LineIsOne
line_is_one r c a i l is = (
  λ stands. (canon_is_the_line Value same_value sameness_is_exact.values (value_at r c a i)).2 l is stands,
  λ same. subst (StandsFor DAYS (value_at r c a i)) (sym same) (canon_is_the_line Value same_value sameness_is_exact.values (value_at r c a i)).1,
)

-- The first of some days that passes.

pub first_found : (p : ℕ → Bool) (s n d : ℕ) → find p (days s n) ≡ Some d → (s ≤ d) × (d < s + n) × (p d ≡ true) × ((e : ℕ) → s ≤ e → e < d → p e ≡ false)
first_found p s zero d e = absurd (cc e)
first_found p s (suc n) d e = go (p s) refl (first_found p (s + 1) n d)
  where
    go : (b : Bool) → p s ≡ b → (find p (days (s + 1) n) ≡ Some d → (s + 1 ≤ d) × (d < (s + 1) + n) × (p d ≡ true) × ((e : ℕ) → s + 1 ≤ e → e < d → p e ≡ false)) → (s ≤ d) × (d < s + suc n) × (p d ≡ true) × ((e : ℕ) → s ≤ e → e < d → p e ≡ false)
    go true q rec =
        let same : s ≡ d = cc (e, ap (λ b. cond b (Some s) (find p (days (s + 1) n))) q) in
        (omega (arith, same), omega (arith, same), ap p (sym same) ∙ q, λ k le lt. absurd (omega (arith, same, le, lt)))
    go false q rec =
        let r = rec (sym (ap (λ b. cond b (Some s) (find p (days (s + 1) n))) q) ∙ e) in
        let low = r.0 in let high = r.1 in
        (omega (arith, low), omega (arith, high), r.2, λ k le lt. before k lt (cases_lt s k) le r.3)
      where
        before : (k : ℕ) → k < d → (s < k) ⊎ (k ≤ s) → s ≤ k → ((e : ℕ) → s + 1 ≤ e → e < d → p e ≡ false) → p k ≡ false
        before k lt (inl more) le rest = rest k (omega (arith, more)) lt
        before k lt (inr at) le rest = let same : s ≡ k = omega (arith, le, at) in ap p (sym same) ∙ q

-- a day that passes, before which none does
pub found_first : (p : ℕ → Bool) (s n d : ℕ) → s ≤ d → d < s + n → p d ≡ true → ((e : ℕ) → s ≤ e → e < d → p e ≡ false) → find p (days s n) ≡ Some d
found_first p s n d le lt passes none = go (find p (days s n)) refl
  where
    same_day : (k : ℕ) → (s ≤ k) × (k < s + n) × (p k ≡ true) × ((e : ℕ) → s ≤ e → e < k → p e ≡ false) → (k < d) ⊎ (d ≤ k) → (d < k) ⊎ (k ≤ d) → Some k ≡ Some d
    same_day k r (inl early) q = absurd (cc (none k r.0 early, r.2))
    same_day k r (inr low) (inl late) = absurd (cc (r.3 d le late, passes))
    same_day k r (inr low) (inr high) = ap Some (omega (arith, low, high))

    go : (o : Option ℕ) → find p (days s n) ≡ o → find p (days s n) ≡ Some d
    go None e = absurd (cc (none_of p s n e d le lt, passes))
    go (Some k) e = e ∙ same_day k (first_found p s n k e) (cases_lt k d) (cases_lt d k)

abbrev differ : (ℕ → Value) → (ℕ → Value) → ℕ → Bool
differ f g d = not (same_value (f d) (g d))

pub difference_found : (end : ℕ) (f g : ℕ → Value) (d : ℕ) → first_difference end f g ≡ Some d → (d < end) × (f d ≢ g d) × ((e : ℕ) → e < d → f e ≡ g e)
unfolding first_difference
difference_found end f g d h =
    let r = first_found (differ f g) 0 end d h in
    let lt = r.1 in (
      omega (arith, lt),
      λ same. cc (not-true (same_value (f d) (g d)) r.2, (sameness_is_exact.values (f d) (g d)).1 same),
      λ e before. value_exact (f e) (g e) (not-false (same_value (f e) (g e)) (r.3 e (omega arith) before)),
    )

pub found_difference : (end : ℕ) (f g : ℕ → Value) (d : ℕ) → d < end → f d ≢ g d → ((e : ℕ) → e < d → f e ≡ g e) → first_difference end f g ≡ Some d
unfolding first_difference
found_difference end f g d lt apart same = found_first (differ f g) 0 end d (omega arith) (omega (arith, lt)) (go (same_value (f d) (g d)) refl) (λ e _ before. ap not ((sameness_is_exact.values (f e) (g e)).1 (same e before)))
  where
    go : (b : Bool) → same_value (f d) (g d) ≡ b → not (same_value (f d) (g d)) ≡ true
    go true e = absurd (apart (value_exact (f d) (g d) e))
    go false e = ap not e

pub no_difference : (end : ℕ) (f : ℕ → Value) → first_difference end f f ≡ None
no_difference end f = go (first_difference end f f) refl
  where
    go : (o : Option ℕ) → first_difference end f f ≡ o → first_difference end f f ≡ None
    go None e = e
    go (Some d) e = absurd ((difference_found end f f d e).1 refl)

-- an instance that is among the live ones passes the test
pub live_passes : (i : InstanceId) (is : List InstanceId) → Contains is i → list_any (is_same i) is ≡ true
live_passes i [] h = absurd (none_in i h)
live_passes i (j ∷ is) h = go (contains_cases j i is h) (live_passes i is)
  where
    go : (j ≡ i) ⊎ Contains is i → (Contains is i → list_any (is_same i) is ≡ true) → list_any (is_same i) (j ∷ is) ≡ true
    go (inl e) rest = or_left (is_same i j) (list_any (is_same i) is) (ap (is_same i) e ∙ same_itself i)
    go (inr there) rest = or_right (is_same i j) (list_any (is_same i) is) (rest there)

module _ (b : Base) (c : Facts) where
  no_line_differs : (q : Question) → differs b c c q ≡ false
  no_line_differs (question.Attr a i) = ap is_some (no_difference DAYS (mean b c a i))
  no_line_differs (question.Members r i) = ap not (names_itself (c.members r i))

  none_differs : (qs : List Question) → list_any (differs b c c) qs ≡ false
  none_differs [] = refl
  none_differs (q ∷ qs) = ap (λ t. t || list_any (differs b c c) qs) (no_line_differs q) ∙ none_differs qs

  clean : (a : AttrId) (i : InstanceId) → Contains c.instances i → is_dirty b c c a i ≡ false
  clean a i live =
      ap (λ t. not (t && same_options is_same (c.container i) (c.container i)) || (not (same_lists same_question (reads_of b c a i) (reads_of b c a i)) || list_any (differs b c c) (reads_of b c a i))) (live_passes i c.instances live)
      ∙ ap (λ t. not t || (not (same_lists same_question (reads_of b c a i) (reads_of b c a i)) || list_any (differs b c c) (reads_of b c a i))) (options_itself is_same same_itself (c.container i))
      ∙ ap (λ t. not t || list_any (differs b c c) (reads_of b c a i)) (lists_itself same_question question_itself (reads_of b c a i))
      ∙ none_differs (reads_of b c a i)

  pub nothing_dirty : dirty b c c ≡ 0
  nothing_dirty = ap length (filter_none (λ (s : AttrId × InstanceId). is_dirty b c c s.0 s.1) (slots b c) (λ s h. clean s.0 s.1 (out_slots b c s h).1.0))

  unchanged : (a : AttrId) (i : InstanceId) → Contains c.instances i → change_of b c c a i ≡ None
  unchanged a i live = ap (option_map (λ (d : ℕ). let x : Changed = record { attr = a; inst = i; day = d; old = value_before b c a i d; new = mean b c a i d } in x))
      (ap (λ (t : Bool). first_difference DAYS (λ d. cond t (mean b c a i d) Unknown) (mean b c a i)) (live_passes i c.instances live) ∙ no_difference DAYS (mean b c a i))

  pub nothing_changed : changes b c c ≡ []
  nothing_changed = filter_map_none (λ (s : AttrId × InstanceId). change_of b c c s.0 s.1) (slots b c) (λ s h. unchanged s.0 s.1 (out_slots b c s h).1.0)

pub nothing_is_dirty : NothingIsDirty
nothing_is_dirty r c is = nothing_dirty (base_of r) (facts_of c)

pub nothing_changes : NothingChanges
nothing_changes r c is = nothing_changed (base_of r) (facts_of c)

module _ (r : Rulebase) (c c' : CaseView) (is' : IsOf r c') where
  abbrev before : AttrId → InstanceId → ℕ → Value
  before = value_before (base_of r) (facts_of c)

  abbrev after : AttrId → InstanceId → ℕ → Value
  after = value_at r c'

  abbrev changed_at : AttrId → InstanceId → ℕ → Changed
  changed_at a i d = record { attr = a; inst = i; day = d; old = before a i d; new = after a i d }

  abbrev change : AttrId × InstanceId → Option Changed
  change s = change_of (base_of r) (facts_of c) (facts_of c') s.0 s.1

  told : (a : AttrId) (i : InstanceId) (x : Changed) → is_slot r c' a i ≡ true → (o : Option ℕ) → first_difference DAYS (before a i) (after a i) ≡ o → option_map (changed_at a i) o ≡ Some x → IsChange r c c' x
  told a i x slot None e h = absurd (cc h)
  told a i x slot (Some d) e h = subst (IsChange r c c') (some_is (changed_at a i d) x h) (record {
    slot = slot;
    within = (difference_found DAYS (before a i) (after a i) d e).0;
    old = refl;
    new = refl;
    differ = (difference_found DAYS (before a i) (after a i) d e).1;
    first = (difference_found DAYS (before a i) (after a i) d e).2;
  })
    where
      some_is : (y z : Changed) → Some y ≡ Some z → y ≡ z
      some_is y z e = cc e

  forth : (x : Changed) → Contains (changes (base_of r) (facts_of c) (facts_of c')) x → IsChange r c c' x
  forth x h =
      let s = filter_map_out change (slots (base_of r) (facts_of c')) x h in
      told s.0.0 s.0.1 x ((slots_are_live r c' is' s.0.0 s.0.1).0 s.1.0) (first_difference DAYS (before s.0.0 s.0.1) (after s.0.0 s.0.1)) refl s.1.1

  same_change : (x : Changed) → IsChange r c c' x → Some (changed_at x.attr x.inst x.day) ≡ Some x
  same_change x is =
      ap (λ (v : Value). let y : Changed = record { attr = x.attr; inst = x.inst; day = x.day; old = v; new = after x.attr x.inst x.day } in Some y) (sym is.old)
      ∙ ap (λ (v : Value). let y : Changed = record { attr = x.attr; inst = x.inst; day = x.day; old = x.old; new = v } in Some y) (sym is.new)

  back : (x : Changed) → IsChange r c c' x → Contains (changes (base_of r) (facts_of c) (facts_of c')) x
  back x is = filter_map_in change (slots (base_of r) (facts_of c')) (x.attr, x.inst) x ((slots_are_live r c' is' x.attr x.inst).1 is.slot)
      (ap (option_map (changed_at x.attr x.inst)) (found_difference DAYS (before x.attr x.inst) (after x.attr x.inst) x.day is.within (λ same. is.differ (is.old ∙ same ∙ sym is.new)) is.first) ∙ same_change x is)

pub changes_are : ChangesAre
changes_are r c c' is' x = (forth r c c' is' x, back r c c' is' x)
