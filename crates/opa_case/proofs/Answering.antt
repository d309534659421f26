-- Answers that are set and taken away keep what fits.
use Rattle.std.specs.Prelude.{◌≡◌, ◌≤◌, ◌<◌, ◌-◌, ◌^◌, ◌%◌, ◌==◌, ℕ, zero, suc, Bool, true, false, cond, not, ◌&&◌, List, [], ◌∷◌, None, Some, refl}
use Rattle.std.specs.Int.RustNames.{unsigned_abs}
use Rattle.std.specs.List.{list_all}
use Rattle.std.specs.FinMap.{FinMap, get, insert, remove, get-insert, get-remove}
use Rattle.std.specs.Ordering.{eq_by_cmp}
use Rattle.std.proofs.Common.{arith, ap, sym, subst, ◌∙◌, ◌⊎◌, inl, inr, eq-eqb}
use Rattle.std.proofs.lemmas.Map.Views.{tells_apart, exact_unsigned_eq}
use Rattle.std.proofs.lemmas.Bool.{or_parts, and_parts, not-false}
use Rattle.std.proofs.lemmas.Option.{same_Some}
use Rattle.opa_value.specs.declared.value.Value.{Value}
use Rattle.opa_value.specs.declared.value.Value.TheVariants as value
use Rattle.opa_model.specs.declared.ids.AttrId.{AttrId}
use Rattle.opa_model.specs.declared.things.Attribute.{Attribute}
use Rattle.opa_cells.specs.declared.instance.InstanceId.{InstanceId}
use Rattle.opa_cells.specs.Keys.{cell_cmp}
use Rattle.opa_cells.proofs.Orders.{cell_exact, cell_total}
use Rattle.opa_case.specs.declared.change.Refusal.TheVariants.{Name, Kind, Range}
use Rattle.opa_case.specs.Shapes.{Shape, IsShape}
use Rattle.opa_case.specs.Live.{is_live}
use Rattle.opa_case.specs.Cases.{CaseView, Answer}
use Rattle.opa_case.specs.Steps.{has_kind, in_bounds, is_unknown_answer, is_unanswerable, without_answer, with_answer, answer_fault}
use Rattle.opa_case.specs.Fits.{has_two_decimals, IsAnswer, Fits}
use Rattle.opa_case.proofs.Kept.{fault_none}

pub answer_removed : (m : FinMap cell_cmp Answer) (k q : ℕ × InstanceId) (v : Answer) → get (remove m k) q ≡ Some v → get m q ≡ Some v
answer_removed m k q v h =
    elim (eq_by_cmp cell_cmp q k) as (λ b. cond b None (get m q) ≡ Some v → get m q ≡ Some v) [ true ↦ λ g. absurd (cc g) | false ↦ λ g. g ] (sym (get-remove cell_total m k q) ∙ h)

-- what is answered after an insertion is the new answer, or was answered
pub answer_inserted : (m : FinMap cell_cmp Answer) (a : AttrId) (i : InstanceId) (v : Answer) (b : AttrId) (j : InstanceId) (w : Answer) → get (insert m (a.0, i) v) (b.0, j) ≡ Some w → ((b ≡ a) × (j ≡ i) × (v ≡ w)) ⊎ (get m (b.0, j) ≡ Some w)
answer_inserted m a i v b j w h =
    elim (eq_by_cmp cell_cmp (b.0, j) (a.0, i)) as (λ t. eq_by_cmp cell_cmp (b.0, j) (a.0, i) ≡ t → cond t (Some v) (get m (b.0, j)) ≡ Some w → ((b ≡ a) × (j ≡ i) × (v ≡ w)) ⊎ (get m (b.0, j) ≡ Some w)) [
      | true ↦ λ e g. let k = tells_apart cell_exact (b.0, j) (a.0, i) e in inl (ap (λ (x : ℕ × InstanceId). let c : AttrId = record { 0 = x.0 } in c) k, ap (λ (x : ℕ × InstanceId). x.1) k, same_Some v w g)
      | false ↦ λ _ g. inr g
    ] refl (sym (get-insert cell_total m (a.0, i) v (b.0, j)) ∙ h)

pub withdrawn_kept : (s : Shape) (ruled : List Bool) (c : CaseView) (a : AttrId) (i : InstanceId) → Fits s ruled c → Fits s ruled (without_answer c a i)
withdrawn_kept s ruled c a i fits = record {
  sound = fits.sound;
  live = fits.live;
  every = fits.every;
  listed = fits.listed;
  answered = λ t j v k. fits.answered t j v (answer_removed c.answers (a.0, i) (t.0, j) v k);
  referred = fits.referred;
  answers = λ t j v k. fits.answers t j v (answer_removed c.answers (a.0, i) (t.0, j) v k);
}

-- what has few decimals has two at most
two : (d : ℕ) (n : ℕ) → d ≤ 2 → (n % 10 ^ (4 - d) == 0) ≡ true → (n % 10 ^ 2 == 0) ≡ true
two d n le h = go (exact_unsigned_eq (n % 10 ^ (4 - d)) 0 h) (below d le)
  where
    below : (k : ℕ) → k ≤ 2 → (k ≡ 0) ⊎ ((k ≡ 1) ⊎ (k ≡ 2))
    below zero l = inl refl
    below (suc zero) l = inr (inl refl)
    below (suc (suc zero)) l = inr (inr refl)
    below (suc (suc (suc k))) l = absurd (omega (arith, l))

    last : n % 100 ≡ 0 → (n % 10 ^ 2 == 0) ≡ true
    last e = eq-eqb (n % 100) 0 e

    go : n % 10 ^ (4 - d) ≡ 0 → (d ≡ 0) ⊎ ((d ≡ 1) ⊎ (d ≡ 2)) → (n % 10 ^ 2 == 0) ≡ true
    go e (inl k) = let f : n % 10000 ≡ 0 = ap (λ x. n % 10 ^ (4 - x)) (sym k) ∙ e in last (omega (arith, f))
    go e (inr (inl k)) = let f : n % 1000 ≡ 0 = ap (λ x. n % 10 ^ (4 - x)) (sym k) ∙ e in last (omega (arith, f))
    go e (inr (inr k)) = last (ap (λ x. n % 10 ^ (4 - x)) (sym k) ∙ e)

pub decimals_two : (a : Attribute) (v : Value) → a.decimals ≤ 2 → in_bounds a v ≡ true → has_two_decimals v ≡ true
decimals_two a value.Unknown le h = refl
decimals_two a value.Uncertain le h = refl
decimals_two a (value.Bool b) le h = refl
decimals_two a (value.Num n) le h = two a.decimals (unsigned_abs n) le (and_parts _ _ h).1
decimals_two a (value.Words t) le h = refl
decimals_two a (value.Day d) le h = refl

all_stronger : {A : Type 0} (p q : A → Bool) → ((x : A) → p x ≡ true → q x ≡ true) → (xs : List A) → list_all p xs ≡ true → list_all q xs ≡ true
all_stronger p q f [] h = refl
all_stronger p q f (x ∷ xs) h = let g = and_parts (p x) (list_all p xs) h in both (q x) (list_all q xs) (f x g.0) (all_stronger p q f xs g.1)
  where
    both : (a b : Bool) → a ≡ true → b ≡ true → (a && b) ≡ true
    both true b e g = g
    both false b e g = e

-- an answer that passes the tests is one
pub is_answer : (s : Shape) (ruled : List Bool) → IsShape s → (c : CaseView) (a : AttrId) (i : InstanceId) (line : Answer) → a.0 < s.attributes → is_unknown_answer line ≡ false → answer_fault s ruled c a i line ≡ None → (is_live c.live i ≡ true) × IsAnswer s ruled a i line
is_answer s ruled shape c a i line there known h =
    let p = fault_none (is_unanswerable s ruled c a i) Name _ h in
    let q = fault_none (not (list_all (λ x. has_kind (s.attribute a).kind x.1) line)) Kind _ p.1 in
    let r = fault_none (not (list_all (λ x. in_bounds (s.attribute a) x.1) line)) Range _ q.1 in
    let outer = or_parts _ _ p.0 in
    let inner = or_parts _ _ outer.0 in (
      not-false _ inner.1,
      record {
        declared = there;
        no_rule = inner.0;
        owner = exact_unsigned_eq i.entity.0 (s.attribute a).entity.0 (not-false _ outer.1);
        known = known;
        kind = not-false _ q.0;
        currency = λ money. all_stronger (λ x. in_bounds (s.attribute a) x.1) (λ x. has_two_decimals x.1) (λ x e. decimals_two (s.attribute a) x.1 (shape.currency a money) e) line (not-false _ r.0);
      },
    )

pub answered_kept : (s : Shape) (ruled : List Bool) → IsShape s → (c : CaseView) (a : AttrId) (i : InstanceId) (line : Answer) → a.0 < s.attributes → Fits s ruled c → answer_fault s ruled c a i line ≡ None → Fits s ruled (with_answer c a i line)
answered_kept s ruled shape c a i line there fits h = elim (is_unknown_answer line) as (λ b. is_unknown_answer line ≡ b → Fits s ruled (cond b (without_answer c a i) (record c { answers = insert c.answers (a.0, i) line }))) [
  | true ↦ λ _. withdrawn_kept s ruled c a i fits
  | false ↦ λ known.
      let new = is_answer s ruled shape c a i line there known h in
      record {
        sound = fits.sound;
        live = fits.live;
        every = fits.every;
        listed = fits.listed;
        answered = λ t j v k. go (is_live c.live j ≡ true) (answer_inserted c.answers a i line t j v k) (λ x. ap (is_live c.live) x.1 ∙ new.0) (λ old. fits.answered t j v old);
        referred = fits.referred;
        answers = λ t j v k. go (IsAnswer s ruled t j v) (answer_inserted c.answers a i line t j v k) (λ x. moved t j v x new.1) (λ old. fits.answers t j v old);
      }
] refl
  where
    go : (Q : Type 0) {A B : Type 0} → A ⊎ B → (A → Q) → (B → Q) → Q
    go Q (inl x) f g = f x
    go Q (inr x) f g = g x

    moved : (t : AttrId) (j : InstanceId) (v : Answer) → (t ≡ a) × (j ≡ i) × (line ≡ v) → IsAnswer s ruled a i line → IsAnswer s ruled t j v
    moved t j v e is = subst (λ (w : Answer). IsAnswer s ruled t j w) e.2 (subst (λ (k : InstanceId). IsAnswer s ruled t k line) (sym e.1) (subst (λ (b : AttrId). IsAnswer s ruled b i line) (sym e.0) is))
