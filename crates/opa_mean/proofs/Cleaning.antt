-- A slot that isn't dirty keeps its line.
use Rattle.std.proofs.Common.{◌≡◌, ◌⊎◌, inl, inr, ℕ, zero, suc, ◌+◌, ◌<◌, ◌≤◌, List, [], ◌∷◌, Bool, true, false, cond, not, None, Some, Contains, refl, sym, ◌∙◌, ap, subst, arith}
use Rattle.std.specs.Prelude.{find, ◌||◌}
use Rattle.std.specs.List.{list_any, AllByRecursion}
use Rattle.std.proofs.lemmas.Bool.{and_parts, cases_lt, or_parts, not-false}
use Rattle.opa_io.proofs.Options.{none_is}
use Rattle.opa_date.specs.declared.TheConstants.{DAYS}
use Rattle.opa_value.specs.declared.value.Value.{Value}
use Rattle.opa_model.specs.declared.ids.AttrId.{AttrId}
use Rattle.opa_cells.specs.Instances.{is_same}
use Rattle.opa_cells.specs.declared.instance.InstanceId.{InstanceId}
use Rattle.opa_cells.proofs.Orders.{same_is}
use Rattle.opa_case.specs.declared.question.Question.{Question}
use Rattle.opa_case.specs.declared.question.Question.TheVariants as question
use Rattle.opa_tree.specs.declared.rules.Rule.{Rule}
use Rattle.opa_tree.specs.Rules.{rule_of}
use Rattle.opa_tree.proofs.Members.{contains_head, contains_tail}
use Rattle.opa_window.specs.Days.{days}
use Rattle.opa_mean.specs.Bases.{IsBase}
use Rattle.opa_mean.specs.Changes.{first_difference, differs, is_dirty}
use Rattle.opa_mean.specs.Completion.{AreFacts}
use Rattle.opa_mean.specs.Laws.{SameRead}
use Rattle.opa_mean.specs.Mean.{Base, Facts, IsLive, mean}
use Rattle.opa_mean.specs.Reads.{reads_of}
use Rattle.opa_mean.specs.Sameness.{same_value, same_question, same_names}
use Rattle.opa_mean.proofs.Exact.{value_exact, question_exact, lists_exact, names_exact}
use Rattle.opa_mean.proofs.LawsHold.{reads_fix_holds}

-- none of the days passes
pub none_of : (p : ℕ → Bool) (s n : ℕ) → find p (days s n) ≡ None → (d : ℕ) → s ≤ d → d < s + n → p d ≡ false
none_of p s zero e d le lt = absurd (omega arith)
none_of p s (suc n) e d le lt = go (p s) refl (cases_lt s d) (none_of p (s + 1) n)
  where
    go : (b : Bool) → p s ≡ b → (s < d) ⊎ (d ≤ s) → (find p (days (s + 1) n) ≡ None → (d : ℕ) → s + 1 ≤ d → d < (s + 1) + n → p d ≡ false) → p d ≡ false
    go true q _ rec = absurd (cc (e, ap (λ b. cond b (Some s) (find p (days (s + 1) n))) q))
    go false q (inl more) rec = rec (sym (ap (λ b. cond b (Some s) (find p (days (s + 1) n))) q) ∙ e) d (omega (arith, more)) (omega (arith, lt))
    go false q (inr at) rec = let same : s ≡ d = omega (arith, le, at) in sym (ap p same) ∙ q

pub same_where_none : (end : ℕ) (f g : ℕ → Value) → first_difference end f g ≡ None → (d : ℕ) → d < end → f d ≡ g d
unfolding first_difference
same_where_none end f g e d lt = value_exact (f d) (g d) (back (same_value (f d) (g d)) (none_of (λ d. not (same_value (f d) (g d))) 0 end e d (omega arith) (omega (arith, lt))))
  where
    back : (b : Bool) → not b ≡ false → b ≡ true
    back true h = refl
    back false h = absurd (cc h)

pub any_same : (i : InstanceId) (is : List InstanceId) → list_any (is_same i) is ≡ true → Contains is i
any_same i [] h = absurd (cc h)
any_same i (j ∷ is) h = go (is_same i j) refl (any_same i is)
  where
    go : (b : Bool) → is_same i j ≡ b → (list_any (is_same i) is ≡ true → Contains is i) → Contains (j ∷ is) i
    go true e rest = subst (λ (k : InstanceId). Contains (j ∷ is) k) (sym (same_is i j e)) (contains_head j is)
    go false e rest = contains_tail j i is (rest (sym (ap (λ b. b || list_any (is_same i) is) e) ∙ h))

module _ (b : Base) (c c' : Facts) where
  same_read : (q : Question) → differs b c c' q ≡ false → SameRead b c c' q
  same_read (question.Attr a i) h = λ d lt. same_where_none DAYS (mean b c a i) (mean b c' a i) (none_is (first_difference DAYS (mean b c a i) (mean b c' a i)) h) d lt
  same_read (question.Members r i) h = names_exact (c.members r i) (c'.members r i) (not-false (same_names (c.members r i) (c'.members r i)) h)

  same_reads : (qs : List Question) → list_any (differs b c c') qs ≡ false → AllByRecursion (SameRead b c c') qs
  same_reads [] h = tt
  same_reads (q ∷ qs) h = let both = or_parts _ _ h in (same_read q both.0, same_reads qs both.1)

  pub clean_stays : IsBase b → AreFacts b.shape c → AreFacts b.shape c' → (a : AttrId) (i : InstanceId) (rule : Rule) → rule_of b.rules a ≡ Some rule → IsLive c' i → is_dirty b c c' a i ≡ false → (d : ℕ) → d < DAYS → mean b c a i d ≡ mean b c' a i d
  clean_stays is are are' a i rule e live' clean =
      let one = or_parts _ _ clean in let two = or_parts _ _ one.1 in
      let kept = and_parts _ _ (not-false _ one.0) in
      let same : reads_of b c a i ≡ reads_of b c' a i = lists_exact same_question question_exact (reads_of b c a i) (reads_of b c' a i) (not-false _ two.0) in
      reads_fix_holds b c c' is are are' a i rule e (any_same i c.instances kept.0) live' same (subst (AllByRecursion (SameRead b c c')) (sym same) (same_reads (reads_of b c' a i) two.1))
