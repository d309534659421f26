-- What a change leaves, part by part, is the settled case.
use Rattle.std.specs.Prelude.{◌≡◌, ℕ, zero, suc, Bool, true, false, cond, ◌&&◌, ◌||◌, Option, None, Some, Result, Ok, Err, IfOk, refl}
use Rattle.std.specs.List.{list_all}
use Rattle.std.specs.Option.{option_map_or}
use Rattle.std.specs.Ordering.{nat_cmp, is_eq, eq_by_cmp}
use Rattle.std.specs.Cmp.{eq_by_cmp_equiv, nat_cmp_total}
use Rattle.std.specs.FinMap.{FinMap, get, retain_keys, insert, remove, empty, same_map, get-insert, get-remove}
use Rattle.std.proofs.Common.{ap, sym, subst, ◌∙◌}
use Rattle.opa_model.specs.declared.ids.RelId.{RelId}
use Rattle.opa_cells.specs.declared.instance.InstanceId.{InstanceId}
use Rattle.opa_cells.specs.Instances.{instance_cmp, is_same, named}
use Rattle.opa_cells.specs.Keys.{cell_cmp}
use Rattle.opa_cells.specs.Rows.{kept_if}
use Rattle.opa_cells.proofs.Orders.{cell_exact, cell_total, get_kept}
use Rattle.opa_cells.proofs.Rowed.{parts}
use Rattle.opa_case.specs.Shapes.{Shape}
use Rattle.opa_case.specs.Live.{Names, Lists, Population, live_of, is_live}
use Rattle.opa_case.specs.Cases.{CaseView, Answer, stored}
use Rattle.opa_case.specs.Steps.{stays, passes, rel, settle, every_upto, every_of, changed}

pub key_test : (q r : ℕ) (j i : InstanceId) → q ≡ r → is_same j i ≡ eq_by_cmp cell_cmp (q, j) (r, i)
key_test q r j i e = ap (λ b. b && is_same j i) (sym (subst (λ m. is_eq (nat_cmp q m) ≡ true) e ((eq_by_cmp_equiv nat_cmp_total).refl q))) ∙ sym (parts (nat_cmp q r) (instance_cmp j i))

cond_not : {A : Type 0} (b : Bool) (x y : A) → b ≡ false → y ≡ cond b x y
cond_not true x y e = absurd (cc e)
cond_not false x y e = refl

pub none_every : (s : Shape) (l : Lists) → ((r : RelId) → s.every r ≡ false) → (n : ℕ) → empty ≡ every_upto s l n
unfolding every_upto
none_every s l none zero = refl
none_every s l none (suc n) = none_every s l none n ∙ cond_not (s.every (rel n)) _ (every_upto s l n) (none (rel n))

kept_list : (s : Shape) (live : Population) (m : FinMap cell_cmp Names) (n : ℕ) (i : InstanceId) (o : Option Names) → get m (n, i) ≡ o → kept_if (passes s live n i) o ≡ cond (stays s live m (n, i)) o None
kept_list s live m n i None e = elim (stays s live m (n, i)) as (λ b. ◌≡◌ {A = Option Names} None (cond b None None)) [ true ↦ refl | false ↦ refl ]
kept_list s live m n i (Some names) e = ap (λ o. cond (is_live live i && (s.contains (rel n) || option_map_or (list_all (λ k. is_live live (named (s.target (rel n)) k))) o true)) (Some names) None) (sym e)

kept_answer : (b : Bool) (o : Option Answer) → kept_if (λ v. b) o ≡ cond b o None
kept_answer true None = refl
kept_answer true (Some v) = refl
kept_answer false None = refl
kept_answer false (Some v) = refl

pub settled : (s : Shape) (c : CaseView) (lists : FinMap cell_cmp Names) (answers : FinMap cell_cmp Answer) (live : Population) (every : FinMap cell_cmp Names)
    → live ≡ live_of s (stored c.lists) → every ≡ every_of s (stored c.lists)
    → ((n : ℕ) (i : InstanceId) → get lists (n, i) ≡ kept_if (passes s live n i) (get c.lists (n, i)))
    → ((n : ℕ) (i : InstanceId) → get answers (n, i) ≡ kept_if (λ v. is_live live i) (get c.answers (n, i)))
    → ◌≡◌ {A = CaseView} (record { lists = lists; every = every; answers = answers; live = live }) (settle s c.lists c.answers)
settled s c lists answers live every alive e told said =
    let a : lists ≡ retain_keys c.lists (stays s live c.lists) = same_map cell_total cell_exact _ _ (λ q. told q.0 q.1 ∙ kept_list s live c.lists q.0 q.1 (get c.lists q) refl ∙ sym (get_kept cell_exact c.lists (stays s live c.lists) q)) in
    let b : answers ≡ retain_keys c.answers (λ k. is_live live k.1) = same_map cell_total cell_exact _ _ (λ q. said q.0 q.1 ∙ kept_answer (is_live live q.1) (get c.answers q) ∙ sym (get_kept cell_exact c.answers (λ k. is_live live k.1) q)) in
    let made : Population → CaseView = λ l. record { lists = retain_keys c.lists (stays s l c.lists); every = every_of s (stored c.lists); answers = retain_keys c.answers (λ k. is_live l k.1); live = l } in
    let first : ◌≡◌ {A = CaseView} (record { lists = lists; every = every; answers = answers; live = live }) (made live) = λ k. record { lists = a k; every = e k; answers = b k; live = live } in
    first ∙ ap made alive

-- an insertion, and a removal, as a list that is changed
pub set_changed : (m : FinMap cell_cmp Names) (r : RelId) (i : InstanceId) (v : Names) → changed m r i (Some v) ≡ stored (insert m (r.0, i) v)
set_changed m r i v k q j = sym (get-insert cell_total m (r.0, i) v (q.0, j)) k

pub forgotten : (m : FinMap cell_cmp Names) (r : RelId) (i : InstanceId) → changed m r i None ≡ stored (remove m (r.0, i))
forgotten m r i k q j = sym (get-remove cell_total m (r.0, i) (q.0, j)) k

pub if_ok : {X E : Type 0} {P Q : X → Type 0} → (r : Result X E) → ((x : X) → P x → Q x) → IfOk r P → IfOk r Q
if_ok (Ok x) f h = f x h
if_ok (Err e) f h = h
