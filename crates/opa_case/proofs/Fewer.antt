-- Where fewer lists are known than containers live, Walk isn't known.
use Rattle.std.specs.Prelude.{◌≡◌, ◌≤◌, ◌<◌, ◌+◌, ◌-◌, ◌==◌, ℕ, Bool, true, false, cond, List, [], ◌∷◌, ◌++◌, Option, None, Some, IsSome, is_some, nat_lt, map, length, refl}
use Rattle.std.specs.Option.{option_map, option_and_then}
use Rattle.std.specs.List.{AllByRecursion, IsDistinct}
use Rattle.std.specs.FinMap.{FinMap, get, insert, remove, retain_keys}
use Rattle.std.proofs.Common.{arith, ap, sym, subst, ◌∙◌, eq-eqb}
use Rattle.std.proofs.lemmas.Bool.{ltb-true}
use Rattle.std.proofs.lemmas.Map.Views.{exact_unsigned_eq}
use mathlib.Core.Bool.{true≢false}
use Rattle.opa_model.specs.declared.ids.RelId.{RelId}
use Rattle.opa_cells.specs.declared.instance.InstanceId.{InstanceId}
use Rattle.opa_cells.specs.Instances.{is_same, named}
use Rattle.opa_cells.specs.Keys.{cell_cmp}
use Rattle.opa_cells.specs.Rows.{cells_at}
use Rattle.opa_cells.proofs.Counted.{cells_at-insert, cells_at-insert_elsewhere, cells_at-remove, cells_at-remove_elsewhere, no_more_than_cells}
use Rattle.opa_cells.proofs.Orders.{cell_exact, same_itself, get_kept}
use Rattle.opa_cells.proofs.Walked.{some_counted}
use Rattle.opa_case.specs.Shapes.{Shape, IsShape}
use Rattle.opa_case.specs.Live.{Names, Lists, members, live_of, gathered, walk}
use Rattle.opa_case.specs.Cases.{stored}
use Rattle.opa_case.specs.Fits.{AreSound}
use Rattle.opa_case.specs.Fewer.{AreFewer}
use Rattle.opa_case.specs.Steps.{changed}
use Rattle.opa_case.proofs.Commit.{set_changed, forgotten}
use Rattle.opa_case.proofs.Distinct.{once_upto, once_member}
use Rattle.opa_case.proofs.Walked.{walk_members}
use Rattle.opa_case.proofs.Walks.{onward}
use Rattle.opa_case.proofs.Weighing.{times}

-- instances of which none is told twice differ
apart : (x : InstanceId) (xs : List InstanceId) → times x xs ≡ 0 → AllByRecursion (λ y. is_same x y ≡ false) xs
apart x [] none = tt
apart x (y ∷ ys) none = elim (is_same x y) as (λ b. is_same x y ≡ b → cond b 1 0 + times x ys ≡ 0 → (b ≡ false) × AllByRecursion (λ z. is_same x z ≡ false) ys) [
  | true ↦ λ _ h. absurd (omega (arith, h))
  | false ↦ λ _ h. (refl, apart x ys (omega (arith, h)))
] refl none

pub differ : (xs : List InstanceId) → ((x : InstanceId) → times x xs ≤ 1) → IsDistinct is_same xs
unfolding IsDistinct
differ [] once = tt
differ (x ∷ xs) once = (apart x xs (omega (arith, first (is_same x x) (same_itself x) (once x))), differ xs (λ y. omega (arith, once y)))
  where
    first : (b : Bool) → b ≡ true → cond b 1 0 + times x xs ≤ 1 → times x xs ≤ 0
    first true h le = omega (arith, le)
    first false h le = absurd (true≢false (sym h))

few_cells : (m : FinMap cell_cmp Names) (q : RelId) (n : ℕ) → cells_at m q.0 < n → AreFewer (stored m) q n
few_cells m q n less xs d have = omega (arith, less, no_more_than_cells q.0 m xs d have)

pub few_known : (m : FinMap cell_cmp Names) (q : RelId) (n k : ℕ) → k ≡ cells_at m q.0 → nat_lt k n ≡ true → AreFewer (stored m) q n
few_known m q n k is h = few_cells m q n (subst (λ j. j < n) is (ltb-true k n h))

-- where one list is changed
module _ (m : FinMap cell_cmp Names) (r : RelId) (i : InstanceId) where
  apart_number : (q : RelId) → (q.0 ≡ r.0 → ⊥) → (r.0 == q.0) ≡ false
  apart_number q other = elim (r.0 == q.0) as (λ t. (r.0 == q.0) ≡ t → t ≡ false) [ true ↦ λ h. absurd (other (sym (exact_unsigned_eq r.0 q.0 h))) | false ↦ λ _. refl ] refl

  pub few_elsewhere : (w : Option Names) (q : RelId) (n k : ℕ) → (q.0 ≡ r.0 → ⊥) → k ≡ cells_at m q.0 → nat_lt k n ≡ true → AreFewer (changed m r i w) q n
  few_elsewhere None q n k other is h =
      subst (λ l. AreFewer l q n) (sym (forgotten m r i))
      (few_cells (remove m (r.0, i)) q n (subst (λ j. j < n) (is ∙ sym (cells_at-remove_elsewhere q.0 m (r.0, i) (apart_number q other))) (ltb-true k n h)))
  few_elsewhere (Some v) q n k other is h =
      subst (λ l. AreFewer l q n) (sym (set_changed m r i v))
      (few_cells (insert m (r.0, i) v) q n (subst (λ j. j < n) (is ∙ sym (cells_at-insert_elsewhere q.0 m (r.0, i) v (apart_number q other))) (ltb-true k n h)))

  less_then : (before : Bool) (w : Option Names) (n k : ℕ) → k - cond before 1 0 + cond (is_some w) 1 0 < n → (before ≡ true → 1 ≤ k) → cond (is_some w) (cond before k (k + 1)) (cond before (k - 1) k) < n
  less_then true None n k less some = omega (arith, less)
  less_then false None n k less some = omega (arith, less)
  less_then true (Some v) n k less some = omega (arith, less, some refl)
  less_then false (Some v) n k less some = omega (arith, less)

  pub few_here : (w : Option Names) (n k : ℕ) (before then : Bool) → k ≡ cells_at m r.0 → before ≡ is_some (get m (r.0, i)) → then ≡ is_some w → nat_lt (k - cond before 1 0 + cond then 1 0) n ≡ true → AreFewer (changed m r i w) r n
  few_here w n k before then is was now h = go w (less_then before w n (cells_at m r.0) less some)
    where
      less : cells_at m r.0 - cond before 1 0 + cond (is_some w) 1 0 < n
      less = subst (λ j. j - cond before 1 0 + cond (is_some w) 1 0 < n) is (subst (λ t. k - cond before 1 0 + cond t 1 0 < n) now (ltb-true (k - cond before 1 0 + cond then 1 0) n h))

      some : before ≡ true → 1 ≤ cells_at m r.0
      some e = some_counted (retain_keys m (λ k. k.0 == r.0)) (r.0, i) (ap is_some (get_kept cell_exact m (λ k. k.0 == r.0) (r.0, i) ∙ ap (λ t. cond t (get m (r.0, i)) None) (eq-eqb r.0 r.0 refl)) ∙ sym was ∙ e)

      go : (w : Option Names) → cond (is_some w) (cond before (cells_at m r.0) (cells_at m r.0 + 1)) (cond before (cells_at m r.0 - 1) (cells_at m r.0)) < n → AreFewer (changed m r i w) r n
      go None less =
          subst (λ l. AreFewer l r n) (sym (forgotten m r i))
          (few_cells (remove m (r.0, i)) r n (subst (λ k. k < n) (ap (λ t. cond t (cells_at m r.0 - 1) (cells_at m r.0)) was ∙ sym (cells_at-remove r.0 m i)) less))
      go (Some v) less =
          subst (λ l. AreFewer l r n) (sym (set_changed m r i v))
          (few_cells (insert m (r.0, i) v) r n (subst (λ k. k < n) (ap (λ t. cond t (cells_at m r.0) (cells_at m r.0 + 1)) was ∙ sym (cells_at-insert r.0 m i v)) less))

-- what lives by sound lists lives once
pub each_lives_once : (s : Shape) → IsShape s → (m : FinMap cell_cmp Names) → AreSound s m → (p : ℕ) → IsDistinct is_same (members p (live_of s (stored m)))
each_lives_once s shape m sound p = differ (members p (live_of s (stored m))) (λ x. once_member x p (live_of s (stored m)) (once_upto s shape m sound (s.count - 1) (omega (arith, shape.some)) x))

module _ (s : Shape) (shape : IsShape s) (l : Lists) (once : (p : ℕ) → IsDistinct is_same (members p (live_of s l))) where
  all_known : (r : RelId) (cs : List InstanceId) (names : Names) → gathered (map (l r) cs) ≡ Some names → AllByRecursion (λ i. IsSome (l r i)) cs
  all_known r [] names g = tt
  all_known r (c ∷ cs) names g = go (l r c) refl (gathered (map (l r) cs)) refl g (λ rest h. all_known r cs rest h)
    where
      go : (o : Option Names) → l r c ≡ o → (p : Option Names) → gathered (map (l r) cs) ≡ p → gathered (o ∷ map (l r) cs) ≡ Some names → ((rest : Names) → gathered (map (l r) cs) ≡ Some rest → AllByRecursion (λ i. IsSome (l r i)) cs) → IsSome (l r c) × AllByRecursion (λ i. IsSome (l r i)) cs
      go None is p more h later = absurd (cc h)
      go (Some ns) is None more h later = absurd (cc (sym (ap (option_map (λ rest. ns ++ rest)) more) ∙ h))
      go (Some ns) is (Some rest) more h later = (subst (λ o. IsSome o) (sym is) refl, later rest more)

  -- fewer lists than containers
  pub few_lists : (n e : ℕ) → s.parent e ≤ n → s.parent e < s.count → AreFewer l (s.contained e) (length (members (s.parent e) (live_of s l))) → option_and_then (onward s l e) (walk s l n (s.parent e)) ≡ None
  few_lists n e le lt few = go (walk s l n (s.parent e)) refl
    where
      none : (cs : List InstanceId) → members (s.parent e) (live_of s l) ≡ cs → (o : Option Names) → gathered (map (l (s.contained e)) cs) ≡ o → option_map (map (named e)) (gathered (map (l (s.contained e)) cs)) ≡ None
      none cs are None known = ap (option_map (map (named e))) known
      none cs are (Some names) known =
          absurd (let less = few cs (subst (IsDistinct is_same) are (once (s.parent e))) (all_known (s.contained e) cs names known) in let same = ap length are in omega (arith, less, same))

      go : (o : Option (List InstanceId)) → walk s l n (s.parent e) ≡ o → option_and_then (onward s l e) o ≡ None
      go None at = refl
      go (Some cs) at = none cs (walk_members s l shape n (s.parent e) le lt cs at) (gathered (map (l (s.contained e)) cs)) refl
