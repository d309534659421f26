-- Sums over runs, and their bounds.
use Rattle.std.proofs.Common.{◌≡◌, ℕ, zero, suc, ◌+◌, ◌-◌, ◌*◌, ◌≤◌, List, ◌∷◌, ◌++◌, sym, ◌∙◌, ap, subst, arith}
use Rattle.std.specs.Prelude.{ℤ, pos, negsuc, ◌*ℤ◌, ◌+ℤ◌, neg_ℤ, ◌≤ℤ◌}
use Rattle.std.proofs.Math.IntN.{+ℤ_assoc, +ℤ_comm, +ℤ_idl, zero-*ℤ, suc_ℤ-*ℤ, pos-*ℤ-pos, pos-*ℤ-negsuc}
use Rattle.std.proofs.Math.Nat.{mul-le-mul_left, add-mul}
use Rattle.opa_io.proofs.Numbers.{sum_above, sum_below}
use Rattle.opa_value.specs.declared.value.Value.{Value}
use Rattle.opa_window.specs.Folds.{count_of, total}
use Rattle.opa_window.specs.Runs.{day_count, times, spread}

total_times : (n : ℕ) (v : Value) (rest : List Value) → total (times n v ++ rest) ≡ (pos n *ℤ count_of v) +ℤ total rest
total_times zero v rest = sym (ap (λ z. z +ℤ total rest) (zero-*ℤ (count_of v)) ∙ +ℤ_idl (total rest))
total_times (suc n) v rest =
    ap (λ z. count_of v +ℤ z) (total_times n v rest)
    ∙ sym (+ℤ_assoc (count_of v) (pos n *ℤ count_of v) (total rest))
    ∙ ap (λ z. z +ℤ total rest) (+ℤ_comm (count_of v) (pos n *ℤ count_of v) ∙ sym (suc_ℤ-*ℤ (pos n) (count_of v)))

-- no count is above B in size
module _ (B : ℕ) where
  pub high : (n : ℕ) (c : ℤ) → (c ≤ℤ pos B) → ((pos n *ℤ c) ≤ℤ pos (n * B))
  high n (pos m) h = let k : m ≤ B = grind (arith, h) in let e : n * m ≤ n * B = mul-le-mul_left n k in rw (pos-*ℤ-pos n m) (grind (arith, e))
  high n (negsuc m) h = rw (pos-*ℤ-negsuc n m) (grind arith)

  pub low : (n : ℕ) (c : ℤ) → (neg_ℤ (pos B) ≤ℤ c) → (neg_ℤ (pos (n * B)) ≤ℤ (pos n *ℤ c))
  low n (pos m) h = rw (pos-*ℤ-pos n m) (grind arith)
  low n (negsuc m) h = let k : suc m ≤ B = grind (arith, h) in let e : n * suc m ≤ n * B = mul-le-mul_left n k in rw (pos-*ℤ-negsuc n m) (grind (arith, e))

  sum_days : (whole d l : ℕ) → d + l ≤ whole → (whole - (d + l)) * B + d * B ≡ (whole - l) * B
  sum_days whole d l le = let e : (whole - (d + l)) + d ≡ whole - l = omega (arith, le) in sym (add-mul (whole - (d + l)) d B) ∙ ap (λ k. k * B) e

  -- the sum so far, and its bounds by the days so far
  pub record Summing (whole rest : List (ℕ × Value)) (sum : ℤ) : Type 0 where
    pub fewer : day_count rest ≤ day_count whole
    pub whole_sum : sum +ℤ total (spread rest) ≡ total (spread whole)
    pub below : neg_ℤ (pos ((day_count whole - day_count rest) * B)) ≤ℤ sum
    pub above : sum ≤ℤ pos ((day_count whole - day_count rest) * B)

  pub sum_step : (whole rs new : List (ℕ × Value)) (n : ℕ) (v : Value) (sum more sum' : ℤ) → rs ≡ (n, v) ∷ new → Summing whole rs sum → more ≡ pos n *ℤ count_of v
      → (neg_ℤ (pos (n * B)) ≤ℤ more) → (more ≤ℤ pos (n * B)) → sum' ≡ sum +ℤ more → Summing whole new sum'
  sum_step whole rs new n v sum more sum' is s value lo hi next =
      let t : sum +ℤ (pos n *ℤ count_of v +ℤ total (spread new)) ≡ total (spread whole) = ap (λ z. sum +ℤ z) (sym (total_times n v (spread new))) ∙ ap (λ l. sum +ℤ total (spread l)) (sym is) ∙ s.whole_sum in
      let days : day_count rs ≡ n + day_count new = ap day_count is in
      let f : n + day_count new ≤ day_count whole = omega (arith, days, s.fewer) in
      let k : (day_count whole - (n + day_count new)) * B + n * B ≡ (day_count whole - day_count new) * B = sum_days (day_count whole) n (day_count new) f in
      let below : neg_ℤ (pos ((day_count whole - (n + day_count new)) * B)) ≤ℤ sum = subst (λ m. neg_ℤ (pos ((day_count whole - m) * B)) ≤ℤ sum) days s.below in
      let above : sum ≤ℤ pos ((day_count whole - (n + day_count new)) * B) = subst (λ m. sum ≤ℤ pos ((day_count whole - m) * B)) days s.above in
      record {
        fewer = omega (arith, f);
        whole_sum = ap (λ z. z +ℤ total (spread new)) (next ∙ ap (λ z. sum +ℤ z) value) ∙ +ℤ_assoc sum (pos n *ℤ count_of v) (total (spread new)) ∙ t;
        below = rw (← k) (rw next (sum_above ((day_count whole - (n + day_count new)) * B) (n * B) sum more below lo));
        above = rw (← k) (rw next (sum_below ((day_count whole - (n + day_count new)) * B) (n * B) sum more above hi));
      }
