-- Which slots a change reaches, one by one.
use Rattle.std.proofs.Common.{◌≡◌, ℕ, ◌+◌, ◌<◌, Bool, true, false, cond, not, List, filter, Contains, length, get_or, take, refl, sym, ◌∙◌, ap, subst, arith}
use Rattle.std.specs.Prelude.{◌||◌}
use Rattle.std.specs.List.{list_any}
use Rattle.std.proofs.lemmas.List.Filters.{length-filter_more}
use Rattle.opa_model.specs.declared.ids.AttrId.{AttrId}
use Rattle.opa_cells.specs.declared.instance.InstanceId.{InstanceId}
use Rattle.opa_case.specs.Cases.{CaseView}
use Rattle.opa_case.specs.declared.question.Question.{Question}
use Rattle.opa_tree.specs.declared.rulebase.Rulebase.{Rulebase}
use Rattle.opa_mean.specs.Gathering.{AreThose}
use Rattle.opa_mean.specs.Reached.Dirty.{slot_reads, is_changed, is_reached, is_fresh, FreshOrReads}
use Rattle.opa_mean.specs.Rulebases.{IsOf}
use Rattle.opa_mean.specs.Sameness.{same_question, same_lists}
use Rattle.opa_mean.specs.Slots.{is_slot}
use Rattle.opa_mean.proofs.Exact.{lists_exact, question_exact}
use Rattle.opa_session.specs.Telling.Reaching.{has_stayed, reads_same, ArePlaced}

-- one slot more is counted
pub count_more : {X : Type 0} (p : X → Bool) (xs : List X) (k n m : ℕ) (x : X) (t : Bool) → k < length xs → x ≡ get_or xs k x → n ≡ length (filter p (take k xs)) → t ≡ p x → m ≡ n + cond t 1 0 → m ≡ length (filter p (take (k + 1) xs))
count_more p xs k n m x t lt is before here next =
    next ∙ ap (λ (j : ℕ). j + cond t 1 0) before ∙ ap (λ (b : Bool). length (filter p (take k xs)) + cond b 1 0) (here ∙ ap p is) ∙ sym (length-filter_more p xs k x lt)

counted_low : (n k : ℕ) (t : Bool) → n < k + 1 → n + cond t 1 0 < k + 1 + 1
counted_low n k true lt = omega (arith, lt)
counted_low n k false lt = omega (arith, lt)

pub count_low : (n m k : ℕ) (t : Bool) → n < k + 1 → m ≡ n + cond t 1 0 → m < k + 1 + 1
count_low n m k t lt next = subst (λ (j : ℕ). j < k + 1 + 1) (sym next) (counted_low n k t lt)

module _ (law : FreshOrReads) (r : Rulebase) (c c' : CaseView) (a : AttrId) (i : InstanceId) where
  -- what is fresh is dirty
  pub fresh_dirty : true ≡ is_fresh r c c' a i → true ≡ is_reached r c c' a i
  fresh_dirty h = sym (law r c c' a i ∙ ap (λ t. t || list_any (is_changed r c c') (slot_reads r c' a i)) (sym h))

  -- what isn't fresh is dirty where something differs that it reads
  pub kept_dirty : (t : Bool) (found : List Question) → false ≡ is_fresh r c c' a i → found ≡ slot_reads r c' a i → t ≡ list_any (is_changed r c c') found → t ≡ is_reached r c c' a i
  kept_dirty t found h e k = k ∙ ap (list_any (is_changed r c c')) e ∙ sym (law r c c' a i ∙ ap (λ t. t || list_any (is_changed r c c') (slot_reads r c' a i)) (sym h))

module _ (r : Rulebase) (c c' : CaseView) (a : AttrId) (i : InstanceId) where
  pub fresh_moved : has_stayed c c' i ≡ false → true ≡ is_fresh r c c' a i
  fresh_moved h = sym (ap (λ t. not t || not (reads_same r c c' a i)) h)

  pub fresh_stayed : (t : Bool) → has_stayed c c' i ≡ true → t ≡ reads_same r c c' a i → not t ≡ is_fresh r c c' a i
  fresh_stayed t h e = ap not e ∙ sym (ap (λ s. not s || not (reads_same r c c' a i)) h)

pub is_of_same : (r r' : Rulebase) (c c' : CaseView) → r' ≡ r → c' ≡ c → IsOf r c → IsOf r' c'
is_of_same r r' c c' e f is = subst (λ (q : Rulebase). IsOf q c') (sym e) (subst (λ (k : CaseView). IsOf r k) (sym f) is)

pub slot_same : (r r' : Rulebase) (c c' : CaseView) (a : AttrId) (i : InstanceId) → r' ≡ r → c' ≡ c → is_slot r c a i ≡ true → is_slot r' c' a i ≡ true
slot_same r r' c c' a i e f h = ap (λ (q : Rulebase). is_slot q c' a i) e ∙ ap (λ (k : CaseView). is_slot r k a i) f ∙ h

pub fresh_same : (r r' : Rulebase) (o o' n n' : CaseView) (a : AttrId) (i : InstanceId) → r' ≡ r → o' ≡ o → n' ≡ n → is_fresh r' o' n' a i ≡ is_fresh r o n a i
fresh_same r r' o o' n n' a i e f g =
    ap (λ (q : Rulebase). is_fresh q o' n' a i) e ∙ ap (λ (k : CaseView). is_fresh r k n' a i) f ∙ ap (λ (k : CaseView). is_fresh r o k a i) g

pub reads_here : (r r' : Rulebase) (n n' : CaseView) (a : AttrId) (i : InstanceId) → r' ≡ r → n' ≡ n → slot_reads r' n' a i ≡ slot_reads r n a i
reads_here r r' n n' a i e g = ap (λ (q : Rulebase). slot_reads q n' a i) e ∙ ap (λ (k : CaseView). slot_reads r k a i) g

pub placed_same : (r r' : Rulebase) (o o' n n' : CaseView) (found : List Question) → r' ≡ r → o' ≡ o → n' ≡ n → ArePlaced r' o' n' found → ArePlaced r o n found
placed_same r r' o o' n n' found e f g h = subst (λ (q : Rulebase). ArePlaced q o n found) e (subst (λ (k : CaseView). ArePlaced r' k n found) f (subst (λ (k : CaseView). ArePlaced r' o' k found) g h))

-- where the two don't look at the same questions, the lists of what they look at aren't the same
pub elsewhere : (before after ours theirs : List Question) → AreThose before ours → AreThose after theirs → (AreThose before after → ⊥) → same_lists same_question ours theirs ≡ false
elsewhere before after ours theirs of_ours of_theirs apart = go (same_lists same_question ours theirs) refl
  where
    go : (b : Bool) → same_lists same_question ours theirs ≡ b → b ≡ false
    go false e = refl
    go true e =
        let same : ours ≡ theirs = lists_exact same_question question_exact ours theirs e in
        absurd (apart (λ q. (λ h. (of_theirs q).1 (subst (λ (qs : List Question). Contains qs q) same ((of_ours q).0 h)), λ h. (of_ours q).1 (subst (λ (qs : List Question). Contains qs q) (sym same) ((of_theirs q).0 h)))))

pub those_back : (first second : List Question) → (AreThose second first → ⊥) → AreThose first second → ⊥
those_back first second apart h = apart (λ q. ((h q).1, (h q).0))
