-- Containers that are noted, and points that are added, unless there is one.
use Rattle.std.proofs.Common.{◌≡◌, ◌<◌, ◌+◌, ◌-◌, ℕ, zero, suc, Bool, true, false, cond, List, [], ◌∷◌, ◌++◌, length, map, drop, arith, refl, sym, ap, ◌∙◌}
use Rattle.std.specs.Prelude.{Option, Some, None, is_some, ◌||◌, ◌&&◌, not, slice_index_or}
use Rattle.std.specs.Option.{option_or}
use Rattle.std.specs.List.{list_any}
use Rattle.std.specs.Ordering.{is_eq}
use Rattle.std.specs.Cmp.{IsTotalOrder, eq_by_cmp_equiv}
use Rattle.std.specs.Cmp.Lexicographic.{nat_list_cmp_total}
use Rattle.std.proofs.lemmas.Cmp.{on_total, then_total}
use Rattle.std.proofs.lemmas.List.{drop_more}
use Rattle.std.proofs.lemmas.Bool.{and_right}
use mathlib.Core.Bool.{true≢false}
use Rattle.opa_cells.specs.declared.instance.InstanceId.{InstanceId}
use Rattle.opa_cells.specs.Instances.{is_same}
use Rattle.opa_cells.proofs.Orders.{instance_total, same_is}
use Rattle.opa_cells.proofs.Rowed.{or_none}
use Rattle.opa_case.specs.Live.{Population, container_of}
use Rattle.opa_case.proofs.Stands.{lookup_append}
use Rattle.opa_saved.specs.declared.entries.Point.{Point}
use Rattle.opa_saved.specs.Forms.{point_cmp, is_point, differ}

module _ (f : InstanceId → Option InstanceId) (i c : InstanceId) where
  pub noted_here : is_some (f i) ≡ true → (q : InstanceId) → f q ≡ option_or (f q) (cond (is_same q i) (Some c) None)
  noted_here some q = elim (is_same q i) as (λ b. is_same q i ≡ b → f q ≡ option_or (f q) (cond b (Some c) None)) [
    | true ↦ λ s. has (f q) (ap (λ n. is_some (f n)) (same_is q i s) ∙ some)
    | false ↦ λ _. sym (or_none (f q))
  ] refl
    where
      has : (o : Option InstanceId) → is_some o ≡ true → o ≡ option_or o (Some c)
      has None e = absurd (true≢false (sym e))
      has (Some x) e = refl

  pub noted_new : is_some (f i) ≡ false → (q : InstanceId) → cond (is_same i q) (Some c) (f q) ≡ option_or (f q) (cond (is_same q i) (Some c) None)
  noted_new none q = ap (λ b. cond b (Some c) (f q)) ((eq_by_cmp_equiv instance_total).symm i q)
      ∙ elim (is_same q i) as (λ b. is_same q i ≡ b → cond b (Some c) (f q) ≡ option_or (f q) (cond b (Some c) None)) [
        | true ↦ λ s. lacks (f q) (ap (λ n. is_some (f n)) (same_is q i s) ∙ none)
        | false ↦ λ _. sym (or_none (f q))
      ] refl
    where
      lacks : (o : Option InstanceId) → is_some o ≡ false → Some c ≡ option_or o (Some c)
      lacks None e = refl
      lacks (Some x) e = absurd (true≢false e)

-- ---- points

pub point_total : IsTotalOrder point_cmp
point_total = then_total (on_total (λ (p : Point). p.phrase) nat_list_cmp_total) (on_total (λ (p : Point). p.name) nat_list_cmp_total)

pub point_added : {X : Type 0} (p q : Point) (x : X) (o : Option X) → is_some (cond (is_eq (point_cmp p q)) (Some x) o) ≡ (is_point q p || is_some o)
point_added p q x o = ap (λ b. is_some (cond b (Some x) o)) ((eq_by_cmp_equiv point_total).symm p q) ∙ either (is_point q p) o
  where
    either : (b : Bool) (y : Option _) → is_some (cond b (Some x) y) ≡ (b || is_some y)
    either true y = refl
    either false y = refl

-- what is left from a place on
pub from_place : {A : Type 0} (xs : List A) (at : ℕ) (x : A) → 0 < at → at - 1 < length xs → x ≡ slice_index_or xs (at - 1) x → drop (at - 1) xs ≡ x ∷ drop at xs
from_place xs at x pos lt is =
    let next : at - 1 + 1 ≡ at = omega (arith, pos) in
    drop_more xs (at - 1) x lt ∙ ap (λ y. y ∷ drop (at - 1 + 1) xs) (sym is) ∙ ap (λ n. x ∷ drop n xs) next

both_false : (a b : Bool) → a ≡ true → (not a && b) ≡ false
both_false true b e = refl
both_false false b e = absurd (true≢false (sym e))

both_true : (a b : Bool) → a ≡ false → b ≡ true → (not a && b) ≡ true
both_true true b e h = absurd (true≢false e)
both_true false b e h = h

module _ {A : Type 0} (point : A → Point) where
  -- a point of these stands twice
  twice_later : (k : ℕ) (xs : List A) → differ (map point (drop k xs)) ≡ false → differ (map point xs) ≡ false
  twice_later zero xs h = h
  twice_later (suc k) [] h = h
  twice_later (suc k) (x ∷ xs) h = and_right (not (list_any (is_point (point x)) (map point xs))) (differ (map point xs)) (twice_later k xs h)

  pub twice_at : (xs : List A) (at : ℕ) (x : A) (has : Bool) → drop (at - 1) xs ≡ x ∷ drop at xs → has ≡ list_any (is_point (point x)) (map point (drop at xs)) → has ≡ true → false ≡ differ (map point xs)
  twice_at xs at x has split is test =
      sym (twice_later (at - 1) xs (ap (λ ys. differ (map point ys)) split ∙ both_false (list_any (is_point (point x)) (map point (drop at xs))) (differ (map point (drop at xs))) (sym is ∙ test)))

  pub once_at : (xs : List A) (at : ℕ) (x : A) (has : Bool) → drop (at - 1) xs ≡ x ∷ drop at xs → has ≡ list_any (is_point (point x)) (map point (drop at xs)) → has ≡ false → differ (map point (drop at xs)) ≡ true → differ (map point (drop (at - 1) xs)) ≡ true
  once_at xs at x has split is test rest = ap (λ ys. differ (map point ys)) split ∙ both_true (list_any (is_point (point x)) (map point (drop at xs))) (differ (map point (drop at xs))) (sym is ∙ test) rest

pub one_more : (xs : Population) (x : InstanceId × InstanceId) (q : InstanceId) → container_of (xs ++ x ∷ []) q ≡ option_or (container_of xs q) (cond (is_same q x.0) (Some x.1) None)
one_more xs x q = lookup_append (is_same q) xs (x ∷ [])
