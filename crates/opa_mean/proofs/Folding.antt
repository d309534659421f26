-- Steps of the loops that go over values.
use Rattle.std.proofs.Common.{◌≡◌, ℕ, Bool, true, false, ℤ, pos, neg_ℤ, ◌+◌, ◌-◌, ◌*◌, ◌^◌, ◌<◌, ◌≤◌, ◌≤ℤ◌, ◌+ℤ◌, List, [], ◌∷◌, length, drop, get_or, max, if◌then◌else◌, suc, refl, sym, ◌∙◌, ap, subst, arith, add-one}
use Rattle.std.proofs.Math.IntN.{+ℤ_assoc, +ℤ_idl}
use Rattle.std.proofs.Math.Nat.{add-mul}
use Rattle.std.proofs.Math.Seq.{drop-cons}
use Rattle.opa_io.proofs.Numbers.{sum_above, sum_below}
use Rattle.opa_value.specs.declared.value.Value.{Value}
use Rattle.opa_value.specs.Truth.{is_true}
use Rattle.opa_window.specs.Folds.{count_of, total, true_ahead, longest}

-- the greatest size of a count
abbrev bound : ℕ
bound = 10 ^ 17

-- the sum so far, and its bounds by the values so far
pub record Summing (whole rest : List Value) (sum : ℤ) : Type 0 where
  pub fewer : length rest ≤ length whole
  pub whole_sum : sum +ℤ total rest ≡ total whole
  pub below : neg_ℤ (pos ((length whole - length rest) * 10 ^ 17)) ≤ℤ sum
  pub above : sum ≤ℤ pos ((length whole - length rest) * 10 ^ 17)

pub sum_start : (whole : List Value) → Summing whole whole (pos 0)
sum_start whole = let e : length whole - length whole ≡ 0 = omega arith in record {
  fewer = omega arith;
  whole_sum = +ℤ_idl (total whole);
  below = rw e (grind arith);
  above = rw e (grind arith);
}

pub sum_step : (whole rs new : List Value) (v : Value) (sum more sum' : ℤ) → rs ≡ v ∷ new → Summing whole rs sum → more ≡ count_of v
    → (neg_ℤ (pos (10 ^ 17)) ≤ℤ more) → (more ≤ℤ pos (10 ^ 17)) → sum' ≡ sum +ℤ more → Summing whole new sum'
sum_step whole rs new v sum more sum' is s value lo hi next =
    let t : sum +ℤ (count_of v +ℤ total new) ≡ total whole = ap (λ l. sum +ℤ total l) (sym is) ∙ s.whole_sum in
    let n : length rs ≡ length new + 1 = ap length is ∙ sym (add-one (length new)) in
    let f : length new + 1 ≤ length whole = omega (arith, n, s.fewer) in
    let one : (length whole - (length new + 1)) + 1 ≡ length whole - length new = omega (arith, f) in
    let k : (length whole - (length new + 1)) * 10 ^ 17 + 1 * 10 ^ 17 ≡ (length whole - length new) * 10 ^ 17 = sym (add-mul (length whole - (length new + 1)) 1 (10 ^ 17)) ∙ ap (λ m. m * 10 ^ 17) one in
    let below : neg_ℤ (pos ((length whole - (length new + 1)) * 10 ^ 17)) ≤ℤ sum = subst (λ m. neg_ℤ (pos ((length whole - m) * 10 ^ 17)) ≤ℤ sum) n s.below in
    let above : sum ≤ℤ pos ((length whole - (length new + 1)) * 10 ^ 17) = subst (λ m. sum ≤ℤ pos ((length whole - m) * 10 ^ 17)) n s.above in
    record {
      fewer = omega (arith, f);
      whole_sum = ap (λ z. z +ℤ total new) (next ∙ ap (λ z. sum +ℤ z) value) ∙ +ℤ_assoc sum (count_of v) (total new) ∙ t;
      below = rw (← k) (rw next (sum_above ((length whole - (length new + 1)) * 10 ^ 17) (1 * 10 ^ 17) sum more below lo));
      above = rw (← k) (rw next (sum_below ((length whole - (length new + 1)) * 10 ^ 17) (1 * 10 ^ 17) sum more above hi));
    }

-- the run ahead and the longest, from a place on
pub record Running (values : List Value) (place ahead most : ℕ) : Type 0 where
  pub within : place ≤ length values
  pub run : ahead ≡ true_ahead (drop place values)
  pub best : most ≡ longest (drop place values)
  pub few : ahead ≤ length values - place

pub run_start : (values : List Value) → Running values (length values) 0 0
run_start values = record { within = omega arith; run = sym (ap true_ahead (drop_all values)); best = sym (ap longest (drop_all values)); few = omega arith }
  where
    drop_all : (values : List Value) → drop (length values) values ≡ []
    drop_all [] = refl
    drop_all (v ∷ vs) = drop_all vs

run_few : (b : Bool) (ahead n : ℕ) → ahead ≤ n → (if b then ahead + 1 else 0) ≤ n + 1
run_few true ahead n le = omega arith
run_few false ahead n le = omega arith

pub run_step : (values : List Value) (place ahead most ahead' most' : ℕ) (v : Value) → place < length values → Running values (place + 1) ahead most → v ≡ get_or values place v
    → ahead' ≡ (if is_true v then ahead + 1 else 0) → most' ≡ max most ahead' → Running values place ahead' most'
run_step values place ahead most ahead' most' v lt r is next up =
    let here : drop place values ≡ v ∷ drop (place + 1) values = drop-cons values place v lt ∙ ap (λ x. x ∷ drop (suc place) values) (sym is) ∙ ap (λ k. v ∷ drop k values) (sym (add-one place)) in
    let run : ahead' ≡ true_ahead (drop place values) = next ∙ ap (λ n. if is_true v then n + 1 else 0) r.run ∙ sym (ap true_ahead here) in
    record {
      within = omega (arith, lt);
      run = run;
      best = up ∙ swapped most ahead' ∙ ap (λ n. max n most) (run ∙ ap true_ahead here) ∙ ap (λ n. max (true_ahead (v ∷ drop (place + 1) values)) n) r.best ∙ sym (ap longest here);
      few = let small : (if is_true v then ahead + 1 else 0) ≤ (length values - (place + 1)) + 1 = run_few (is_true v) ahead (length values - (place + 1)) r.few in omega (arith, small, next, lt);
    }
  where
    swapped : (a b : ℕ) → max a b ≡ max b a
    swapped a b = omega arith
