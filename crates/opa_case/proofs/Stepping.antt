-- Accepted commands keep what fits and what is clean.
use Rattle.std.specs.Prelude.{◌≡◌, ℕ, Bool, true, false, cond, List, None, Some, Result, Ok, Err, refl}
use Rattle.std.specs.FinMap.{FinMap, get, insert, remove, same_map, get-insert, get-remove}
use Rattle.std.specs.Ordering.{eq_by_cmp}
use Rattle.std.proofs.Common.{ap, sym, subst, ◌∙◌}
use Rattle.opa_io.proofs.Options.{cond_none_parts}
use Rattle.opa_model.specs.declared.ids.AttrId.{AttrId}
use Rattle.opa_model.specs.declared.ids.RelId.{RelId}
use Rattle.opa_cells.specs.declared.instance.InstanceId.{InstanceId}
use Rattle.opa_cells.specs.Keys.{cell_cmp}
use Rattle.opa_cells.proofs.Orders.{cell_exact, cell_total, get_kept}
use Rattle.opa_case.specs.declared.change.ChangeCommand.TheVariants.{Answer as SetAnswer, Withdraw, SetList, Forget}
use Rattle.opa_case.specs.declared.change.Refusal.{Refusal}
use Rattle.opa_case.specs.declared.change.Refusal.TheVariants.{Name}
use Rattle.opa_case.specs.Shapes.{Shape}
use Rattle.opa_case.specs.Live.{Names, live_of, is_live}
use Rattle.opa_case.specs.Cases.{CaseView, Answer, stored}
use Rattle.opa_case.specs.Steps.{stays, settle, is_misplaced, is_unanswerable, is_unknown_answer, answer_fault, list_fault, within, with_answer, without_answer, with_list, without_list}
use Rattle.opa_case.specs.Fits.{Known, Answered, Fits}
use Rattle.opa_case.specs.Clean.{IsClean, are_clean_names, is_clean_answer}
use Rattle.opa_case.specs.Laws.{StepFits, StepIsClean, WithdrawUndoes}
use Rattle.opa_case.proofs.Kept.{inserted, removed, guard, ok_is, passed, within_is, list_kept, forgotten_kept, fault_none}
use Rattle.opa_case.proofs.Answering.{answer_inserted, answer_removed, answered_kept, withdrawn_kept}
use Rattle.opa_case.proofs.Settling.{either}

pub step_fits : StepFits
step_fits s ruled shape c c' (SetAnswer a i line) declared fits h =
    let p = passed (answer_fault s ruled c a i line) (Ok (with_answer c a i line)) c' h in
    subst (Fits s ruled) (ok_is (with_answer c a i line) c' p.1) (answered_kept s ruled shape c a i line declared fits p.0)
step_fits s ruled shape c c' (Withdraw a i) declared fits h =
    subst (Fits s ruled) (ok_is (without_answer c a i) c' (guard (is_unanswerable s ruled c a i) Name (Ok (without_answer c a i)) c' h).1) (withdrawn_kept s ruled c a i fits)
step_fits s ruled shape c c' (SetList r i names) declared fits h =
    let p = passed (list_fault s c r i names) (within s ruled (with_list s c r i names)) c' h in
    subst (Fits s ruled) (within_is s ruled (with_list s c r i names) c' p.1) (list_kept s ruled shape c r i names declared fits p.0)
step_fits s ruled shape c c' (Forget r i) declared fits h =
    subst (Fits s ruled) (ok_is (without_list s c r i) c' (guard (is_misplaced s c r i) Name (Ok (without_list s c r i)) c' h).1) (forgotten_kept s ruled shape c r i fits)

-- what a settled case has, the lists and answers had
pub settled_list : (s : Shape) (m : FinMap cell_cmp Names) (answers : FinMap cell_cmp Answer) (r : RelId) (i : InstanceId) (names : Names) → Known (settle s m answers).lists r i names → Known m r i names
settled_list s m answers r i names h = (cond_none_parts (stays s (live_of s (stored m)) m (r.0, i)) (get m (r.0, i)) names (sym (get_kept cell_exact m (stays s (live_of s (stored m)) m) (r.0, i)) ∙ h)).1

pub settled_answer : (s : Shape) (m : FinMap cell_cmp Names) (answers : FinMap cell_cmp Answer) (a : AttrId) (i : InstanceId) (line : Answer) → Answered (settle s m answers).answers a i line → (is_live (live_of s (stored m)) i ≡ true) × Answered answers a i line
settled_answer s m answers a i line h = cond_none_parts (is_live (live_of s (stored m)) i) (get answers (a.0, i)) line (sym (get_kept cell_exact answers (λ k. is_live (live_of s (stored m)) k.1) (a.0, i)) ∙ h)

withdrawn_clean : (c : CaseView) (a : AttrId) (i : InstanceId) → IsClean c → IsClean (without_answer c a i)
withdrawn_clean c a i clean = record { names = clean.names; texts = λ b j line h. clean.texts b j line (answer_removed c.answers (a.0, i) (b.0, j) line h) }

answered_clean : (c : CaseView) (a : AttrId) (i : InstanceId) (line : Answer) → is_clean_answer line ≡ true → IsClean c → IsClean (with_answer c a i line)
answered_clean c a i line is clean = elim (is_unknown_answer line) as (λ b. IsClean (cond b (without_answer c a i) (record c { answers = insert c.answers (a.0, i) line }))) [
  | true ↦ withdrawn_clean c a i clean
  | false ↦ record { names = clean.names; texts = λ b j new h. either (is_clean_answer new ≡ true) (answer_inserted c.answers a i line b j new h) (λ x. ap is_clean_answer (sym x.2) ∙ is) (λ old. clean.texts b j new old) }
]

pub step_is_clean : StepIsClean
step_is_clean s ruled c c' (SetAnswer a i line) is clean h =
    subst IsClean (ok_is (with_answer c a i line) c' (passed (answer_fault s ruled c a i line) (Ok (with_answer c a i line)) c' h).1) (answered_clean c a i line is clean)
step_is_clean s ruled c c' (Withdraw a i) is clean h =
    subst IsClean (ok_is (without_answer c a i) c' (guard (is_unanswerable s ruled c a i) Name (Ok (without_answer c a i)) c' h).1) (withdrawn_clean c a i clean)
step_is_clean s ruled c c' (SetList r i names) is clean h =
    let m = insert c.lists (r.0, i) names in
    subst IsClean (within_is s ruled (with_list s c r i names) c' (passed (list_fault s c r i names) (within s ruled (with_list s c r i names)) c' h).1)
    (record {
      names = λ q j ns k. either (are_clean_names ns ≡ true) (inserted c.lists r i names q j ns (settled_list s m c.answers q j ns k)) (λ x. ap are_clean_names (sym x.2) ∙ is) (λ old. clean.names q j ns old);
      texts = λ b j line k. clean.texts b j line (settled_answer s m c.answers b j line k).1;
    })
step_is_clean s ruled c c' (Forget r i) is clean h =
    let m = remove c.lists (r.0, i) in
    subst IsClean (ok_is (without_list s c r i) c' (guard (is_misplaced s c r i) Name (Ok (without_list s c r i)) c' h).1)
    (record {
      names = λ q j ns k. clean.names q j ns (removed c.lists (r.0, i) q j ns (settled_list s m c.answers q j ns k));
      texts = λ b j line k. clean.texts b j line (settled_answer s m c.answers b j line k).1;
    })

removed_twice : (m : FinMap cell_cmp Answer) (k : ℕ × InstanceId) → remove (remove m k) k ≡ remove m k
removed_twice m k = same_map cell_total cell_exact _ _ (λ q. get-remove cell_total (remove m k) k q ∙ elim (eq_by_cmp cell_cmp q k) as (λ b. eq_by_cmp cell_cmp q k ≡ b → cond b None (get (remove m k) q) ≡ get (remove m k) q) [
  | true ↦ λ e. sym (get-remove cell_total m k q ∙ ap (λ b. cond b None (get m q)) e)
  | false ↦ λ _. refl
] refl)

set_and_removed : (m : FinMap cell_cmp Answer) (k : ℕ × InstanceId) (v : Answer) → remove (insert m k v) k ≡ remove m k
set_and_removed m k v = same_map cell_total cell_exact _ _ (λ q. get-remove cell_total (insert m k v) k q ∙ elim (eq_by_cmp cell_cmp q k) as (λ b. eq_by_cmp cell_cmp q k ≡ b → cond b None (get (insert m k v) q) ≡ cond b None (get m q)) [
  | true ↦ λ _. refl
  | false ↦ λ e. get-insert cell_total m k v q ∙ ap (λ b. cond b (Some v) (get m q)) e
] refl ∙ sym (get-remove cell_total m k q))

-- both ways to set an answer are undone
undone : (s : Shape) (ruled : List Bool) (c : CaseView) (a : AttrId) (i : InstanceId) (line : Answer) → is_unanswerable s ruled c a i ≡ false → cond (is_unanswerable s ruled (with_answer c a i line) a i) (Err Name) (Ok (without_answer (with_answer c a i line) a i)) ≡ Ok (without_answer c a i)
undone s ruled c a i line fine = elim (is_unknown_answer line) as (λ b. cond (is_unanswerable s ruled (cond b (without_answer c a i) (record c { answers = insert c.answers (a.0, i) line })) a i) (Err Name) (Ok (without_answer (cond b (without_answer c a i) (record c { answers = insert c.answers (a.0, i) line })) a i)) ≡ Ok (without_answer c a i)) [
  | true ↦ ap (λ b. cond b (Err Name) (Ok (without_answer (without_answer c a i) a i))) fine ∙ ap (λ (m : FinMap cell_cmp Answer). let v : Result CaseView Refusal = Ok (record c { answers = m }) in v) (removed_twice c.answers (a.0, i))
  | false ↦ ap (λ b. cond b (Err Name) (Ok (without_answer (record c { answers = insert c.answers (a.0, i) line }) a i))) fine ∙ ap (λ (m : FinMap cell_cmp Answer). let v : Result CaseView Refusal = Ok (record c { answers = m }) in v) (set_and_removed c.answers (a.0, i) line)
]

pub withdraw_undoes : WithdrawUndoes
withdraw_undoes s ruled c c' a i line h =
    let p = passed (answer_fault s ruled c a i line) (Ok (with_answer c a i line)) c' h in
    let fine = (fault_none (is_unanswerable s ruled c a i) Name _ p.0).0 in
    ap (λ (v : CaseView). cond (is_unanswerable s ruled v a i) (Err Name) (Ok (without_answer v a i))) (sym (ok_is (with_answer c a i line) c' p.1)) ∙ undone s ruled c a i line fine
