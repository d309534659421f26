-- The greatest, the least and the longest run are what their names say.
use Rattle.std.proofs.Common.{◌≡◌, ◌⊎◌, inl, inr, ℕ, zero, suc, ◌+◌, ◌<◌, ◌≤◌, Bool, true, false, List, [], ◌∷◌, ◌++◌, length, map, refl, sym, ◌∙◌, ap, subst, arith, ℤ, ◌≤ℤ◌, ltb-false}
use Rattle.std.specs.Prelude.{max, int_lt, nat_lt, slice_index_or, if◌then◌else◌}
use Rattle.std.specs.List.{Contains}
use Rattle.std.proofs.lemmas.Bool.{cases_lt}
use Rattle.opa_value.specs.declared.value.Value.{Value}
use Rattle.opa_value.specs.declared.value.Value.TheVariants as value
use Rattle.opa_window.specs.Folds.{best_from, is_less, is_more, true_ahead, longest}
use Rattle.opa_window.specs.Laws.{IsGreatest, GreatestIsGreatest, LeastIsLeast, HasRun, LongestIsLongest}
use Rattle.opa_window.specs.Runs.{times}
use Rattle.opa_window.proofs.RunSteps.{longest_true}

module _ {K : Type 0} where
  here : (k : K) (ks : List K) → Contains (k ∷ ks) k
  here k ks = (0, omega arith, refl)

  there : (k j : K) (ks : List K) → Contains ks j → Contains (k ∷ ks) j
  there k j ks c = (suc c.0, omega (arith, c.1), c.2)

  split : (k j : K) (ks : List K) → Contains (k ∷ ks) j → (k ≡ j) ⊎ Contains ks j
  split k j ks c = by_place c.0 c.1 c.2
    where
      by_place : (i : ℕ) → i < length (k ∷ ks) → slice_index_or (k ∷ ks) i j ≡ j → (k ≡ j) ⊎ Contains ks j
      by_place zero lt is = inl is
      by_place (suc i) lt is = inr (i, omega (arith, lt), is)

  module _ (c : K → Value) (is_beaten : Value → Value → Bool) (at_most : K → K → Type 0) (beaten : (x y : K) → is_beaten (c x) (c y) ≡ true → at_most x y)
      (unbeaten : (x y : K) → is_beaten (c x) (c y) ≡ false → at_most y x) (same : (x : K) → at_most x x) (chain : (x y z : K) → at_most x y → at_most y z → at_most x z) where
    pub best_is : (k : K) (ks : List K) → (m : K) × IsGreatest at_most (k ∷ ks) m × (best_from is_beaten (c k) (map c ks) ≡ c m)
    best_is k [] = (k, record { one = here k []; none_above = λ j h. elim (split k j [] h) [ inl e ↦ subst (λ i. at_most i k) e (same k) | inr n ↦ absurd (omega (arith, n.1)) ] }, refl)
    best_is k (j ∷ js) = go (is_beaten (c k) (c j)) refl (best_is j js) (best_is k js)
      where
        go : (t : Bool) → is_beaten (c k) (c j) ≡ t → ((m : K) × IsGreatest at_most (j ∷ js) m × (best_from is_beaten (c j) (map c js) ≡ c m)) → ((m : K) × IsGreatest at_most (k ∷ js) m × (best_from is_beaten (c k) (map c js) ≡ c m))
            → (m : K) × IsGreatest at_most (k ∷ j ∷ js) m × (best_from is_beaten (if t then c j else c k) (map c js) ≡ c m)
        go true e r s = (
          r.0,
          record {
            one = there k r.0 (j ∷ js) r.1.one;
            none_above = λ i h. elim (split k i (j ∷ js) h) [
              | inl first ↦ subst (λ x. at_most x r.0) first (chain k j r.0 (beaten k j e) (r.1.none_above j (here j js)))
              | inr rest ↦ r.1.none_above i rest
            ];
          },
          r.2,
        )
        go false e r s = (
          s.0,
          record {
            one = elim (split k s.0 js s.1.one) [
              | inl first ↦ subst (Contains (k ∷ j ∷ js)) first (here k (j ∷ js))
              | inr rest ↦ there k s.0 (j ∷ js) (there j s.0 js rest)
            ];
            none_above = λ i h. elim (split k i (j ∷ js) h) [
              | inl first ↦ subst (λ x. at_most x s.0) first (s.1.none_above k (here k js))
              | inr rest ↦ elim (split j i js rest) [
                | inl second ↦ subst (λ x. at_most x s.0) second (chain j k s.0 (unbeaten k j e) (s.1.none_above k (here k js)))
                | inr others ↦ s.1.none_above i (there k i js others)
              ]
            ];
          },
          s.2,
        )

lt_true : (x y : ℤ) → int_lt x y ≡ true → x ≤ℤ y
lt_true x y e = grind (arith, e)

lt_false : (x y : ℤ) → int_lt x y ≡ false → y ≤ℤ x
lt_false x y e = grind (arith, e)

le_chain : (x y z : ℤ) → x ≤ℤ y → y ≤ℤ z → x ≤ℤ z
le_chain x y z h k = grind (arith, h, k)

le_same : (x : ℤ) → x ≤ℤ x
le_same x = grind arith

nat_true : (x y : ℕ) → nat_lt x y ≡ true → x ≤ y
nat_true x y e = grind (arith, e)

pub greatest_is_greatest : GreatestIsGreatest
greatest_is_greatest = (
  best_is value.Num is_less (λ i j. i ≤ℤ j) lt_true lt_false le_same le_chain,
  best_is value.Day is_less (λ i j. i ≤ j) nat_true ltb-false (λ x. omega arith) (λ x y z h k. omega arith),
)

pub least_is_least : LeastIsLeast
least_is_least = (
  best_is value.Num is_more (λ i j. j ≤ℤ i) (λ x y e. lt_true y x e) (λ x y e. lt_false y x e) le_same (λ x y z h k. le_chain z y x k h),
  best_is value.Day is_more (λ i j. j ≤ i) (λ x y e. nat_true y x e) (λ x y e. ltb-false y x e) (λ x. omega arith) (λ x y z h k. omega arith),
)

-- the true values in front are a run
in_front : (vs : List Value) → (after : List Value) × (vs ≡ times (true_ahead vs) (value.Bool true) ++ after)
in_front [] = ([], refl)
in_front (value.Bool true ∷ vs) =
    let f = in_front vs in
    let e : suc (true_ahead vs) ≡ true_ahead vs + 1 = omega arith in
    (f.0, ap (λ l. value.Bool true ∷ l) f.1 ∙ ap (λ n. times n (value.Bool true) ++ f.0) e)
in_front (v ∷ vs) = (v ∷ vs, refl)

has_longest : (vs : List Value) → HasRun vs (longest vs)
has_longest [] = record { before = []; after = []; parts = refl }
has_longest (v ∷ vs) =
    let f = in_front (v ∷ vs) in
    let rest = has_longest vs in
    elim (cases_lt (true_ahead (v ∷ vs)) (longest vs)) [
      | inl lt ↦
          let e : longest vs ≡ max (true_ahead (v ∷ vs)) (longest vs) = omega arith in
          record { before = v ∷ rest.before; after = rest.after; parts = ap (λ l. v ∷ l) rest.parts ∙ ap (λ n. v ∷ (rest.before ++ times n (value.Bool true) ++ rest.after)) e }
      | inr le ↦
          let e : true_ahead (v ∷ vs) ≡ max (true_ahead (v ∷ vs)) (longest vs) = omega arith in
          record { before = []; after = f.0; parts = f.1 ∙ ap (λ n. times n (value.Bool true) ++ f.0) e }
    ]

no_longer : (before : List Value) (n : ℕ) (after : List Value) → n ≤ longest (before ++ times n (value.Bool true) ++ after)
no_longer [] n after = omega (arith, longest_true n (value.Bool true) after refl)
no_longer (v ∷ vs) n after = omega (arith, no_longer vs n after)

pub longest_is_longest : LongestIsLongest
longest_is_longest vs = (has_longest vs, λ n run. subst (λ l. n ≤ longest l) (sym run.parts) (no_longer run.before n run.after))
