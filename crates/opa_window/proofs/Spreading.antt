-- A window's values are those of its runs, each as often as it has days.
use Rattle.std.proofs.Common.{◌≡◌, ℕ, zero, suc, ◌+◌, ◌-◌, ◌<◌, ◌≤◌, Bool, true, false, cond, List, [], ◌∷◌, ◌++◌, length, map, refl, sym, ◌∙◌, ap, arith}
use Rattle.std.specs.Prelude.{nat_le, ◌||◌, slice_index_or, take, drop}
use Rattle.std.specs.List.{list_any}
use Rattle.std.proofs.lemmas.Bool.{le-leb, lt-leb}
use Rattle.std.proofs.lemmas.Grind.{common_steps}
use Rattle.opa_value.specs.declared.value.Value.{Value}
use Rattle.opa_line.specs.Lines.{value_from}
use Rattle.opa_window.specs.Days.{days, over_days, day_value}
use Rattle.opa_window.specs.Runs.{times, spread, runs, runs_of, AreLong, day_count}

or_twice : (b c : Bool) → (b || (b || c)) ≡ (b || c)
or_twice true c = refl
or_twice false c = refl

module _ {X : Type 0} where
  append_nil : (l : List X) → l ++ [] ≡ l
  append_nil [] = refl
  append_nil (x ∷ l) = ap (λ m. x ∷ m) (append_nil l)

  pub same_days : (f g : ℕ → X) (s n : ℕ) → ((d : ℕ) → s ≤ d → d < s + n → f d ≡ g d) → map f (days s n) ≡ map g (days s n)
  same_days f g s zero h = refl
  same_days f g s (suc n) h = ap (λ x. x ∷ map f (days (s + 1) n)) (h s (omega arith) (omega arith)) ∙ ap (λ m. g s ∷ m) (same_days f g (s + 1) n (λ d le lt. h d (omega arith) (omega arith)))

  pub const_days : (v : X) (s n : ℕ) → map (λ _. v) (days s n) ≡ times n v
  const_days v s zero = refl
  const_days v s (suc n) = ap (λ m. v ∷ m) (const_days v (s + 1) n)

  pub split_days : (f : ℕ → X) (s a b : ℕ) → map f (days s (a + b)) ≡ map f (days s a) ++ map f (days (s + a) b)
  split_days f s zero b = let z : 0 + b ≡ b = omega arith in let e : s ≡ s + 0 = omega arith in ap (λ n. map f (days s n)) z ∙ ap (λ n. map f (days n b)) e
  split_days f s (suc a) b = ap (λ n. map f (days s n)) (the_sum a b) ∙ ap (λ m. f s ∷ m) (split_days f (s + 1) a b ∙ ap (λ n. map f (days (s + 1) a) ++ map f (days n b)) (omega arith))
    where
      the_sum : (a b : ℕ) → suc a + b ≡ suc (a + b)
      the_sum a b = omega arith

  early : (v : X) (p : ℕ × X) (l : List (ℕ × X)) (e : ℕ) → e < p.0 → value_from v (p ∷ l) e ≡ v
  early v p l e lt = ap (λ b. cond b (value_from p.1 l e) v) (lt-leb p.0 e lt)

  later : (v : X) (p : ℕ × X) (l : List (ℕ × X)) (e : ℕ) → p.0 ≤ e → value_from v (p ∷ l) e ≡ value_from p.1 l e
  later v p l e le = ap (λ b. cond b (value_from p.1 l e) v) (le-leb p.0 e le)

  -- before the next pair
  run_days : (v : X) (p : ℕ × X) (l : List (ℕ × X)) (s n : ℕ) → s + n ≤ p.0 → map (value_from v (p ∷ l)) (days s n) ≡ times n v
  run_days v p l s n le = same_days (value_from v (p ∷ l)) (λ _. v) s n (λ d h lt. early v p l d (omega arith)) ∙ const_days v s n

  pub runs_spread : (v : X) (l : List (ℕ × X)) (s t : ℕ) → s ≤ t → spread (runs v l s t) ≡ over_days (value_from v l) s t
  runs_spread v [] s t le = append_nil (times (t - s) v) ∙ sym (const_days v s (t - s))
  runs_spread v (p ∷ l) s t le = go (nat_le t p.0) refl (nat_le p.0 s) refl (λ h. runs_spread p.1 l s t h) (λ h. runs_spread p.1 l p.0 t h)
    where
      Whole : Type 0
      Whole = spread (runs v (p ∷ l) s t) ≡ over_days (value_from v (p ∷ l)) s t

      go : (b : Bool) → nat_le t p.0 ≡ b → (c : Bool) → nat_le p.0 s ≡ c → (s ≤ t → spread (runs p.1 l s t) ≡ over_days (value_from p.1 l) s t) → (p.0 ≤ t → spread (runs p.1 l p.0 t) ≡ over_days (value_from p.1 l) p.0 t)
          → spread (cond b ((t - s, v) ∷ []) (cond c (runs p.1 l s t) ((p.0 - s, v) ∷ runs p.1 l p.0 t))) ≡ over_days (value_from v (p ∷ l)) s t
      go true e c e' skip cut = append_nil (times (t - s) v) ∙ sym (run_days v p l s (t - s) (grind (arith, e)))
      go false e true e' skip cut = skip le ∙ sym (same_days (value_from v (p ∷ l)) (value_from p.1 l) s (t - s) (λ d h lt. later v p l d (grind (arith, e'))))
      go false e false e' skip cut =
          let a : s < p.0 = grind (arith, e') in
          let b : p.0 < t = grind (arith, e) in
          let n : (p.0 - s) + (t - p.0) ≡ t - s = omega arith in
          let m : s + (p.0 - s) ≡ p.0 = omega arith in
          ap (λ xs. times (p.0 - s) v ++ xs) (cut (omega arith) ∙ sym (same_days (value_from v (p ∷ l)) (value_from p.1 l) p.0 (t - p.0) (λ d h lt. later v p l d h)))
          ∙ ap (λ xs. xs ++ map (value_from v (p ∷ l)) (days p.0 (t - p.0))) (sym (run_days v p l s (p.0 - s) (omega arith)))
          ∙ ap (λ k. map (value_from v (p ∷ l)) (days s (p.0 - s)) ++ map (value_from v (p ∷ l)) (days k (t - p.0))) (sym m)
          ∙ sym (split_days (value_from v (p ∷ l)) s (p.0 - s) (t - p.0))
          ∙ ap (λ k. map (value_from v (p ∷ l)) (days s k)) n

  pub runs_long : (v : X) (l : List (ℕ × X)) (s t : ℕ) → s < t → AreLong (runs v l s t)
  runs_long v [] s t lt = (omega arith, tt)
  runs_long v (p ∷ l) s t lt = go (nat_le t p.0) refl (nat_le p.0 s) refl (λ h. runs_long p.1 l s t h) (λ h. runs_long p.1 l p.0 t h)
    where
      go : (b : Bool) → nat_le t p.0 ≡ b → (c : Bool) → nat_le p.0 s ≡ c → (s < t → AreLong (runs p.1 l s t)) → (p.0 < t → AreLong (runs p.1 l p.0 t)) → AreLong (cond b ((t - s, v) ∷ []) (cond c (runs p.1 l s t) ((p.0 - s, v) ∷ runs p.1 l p.0 t)))
      go true e c e' skip cut = (omega arith, tt)
      go false e true e' skip cut = skip lt
      go false e false e' skip cut = (grind (arith, e'), cut (grind (arith, e)))

  runs_count : (v : X) (l : List (ℕ × X)) (s t : ℕ) → s ≤ t → day_count (runs v l s t) ≡ t - s
  runs_count v [] s t le = omega arith
  runs_count v (p ∷ l) s t le = go (nat_le t p.0) refl (nat_le p.0 s) refl (runs_count p.1 l s t le) (λ h. runs_count p.1 l p.0 t h)
    where
      go : (b : Bool) → nat_le t p.0 ≡ b → (c : Bool) → nat_le p.0 s ≡ c → day_count (runs p.1 l s t) ≡ t - s → (p.0 ≤ t → day_count (runs p.1 l p.0 t) ≡ t - p.0)
          → day_count (cond b ((t - s, v) ∷ []) (cond c (runs p.1 l s t) ((p.0 - s, v) ∷ runs p.1 l p.0 t))) ≡ t - s
      go true e c e' skip cut = omega arith
      go false e true e' skip cut = skip
      go false e false e' skip cut = let a : s < p.0 = grind (arith, e') in let b : p.0 < t = grind (arith, e) in let k = cut (omega arith) in omega (arith, k)

  pub run_start : (pairs : List (ℕ × X)) (x : ℕ × X) (s t : ℕ) → 0 < length pairs → runs (slice_index_or pairs 0 x).1 (take (length pairs - 1) (drop 1 pairs)) s t ≡ runs_of pairs s t
  run_start [] x s t lt = absurd (omega arith)
  run_start (p ∷ l) x s t lt = let e : take (length (p ∷ l) - 1) l ≡ l = grind (arith, common_steps) in rw e refl

  -- the runs of a window have its days
  pub window_long : (pairs : List (ℕ × X)) (s t : ℕ) → s < t → AreLong (runs_of pairs s t)
  window_long [] s t lt = tt
  window_long (p ∷ l) s t lt = runs_long p.1 l s t lt

  pub window_count : (pairs : List (ℕ × X)) (s t : ℕ) → s < t → day_count (runs_of pairs s t) ≤ t
  window_count [] s t lt = omega arith
  window_count (p ∷ l) s t lt = let k = runs_count p.1 l s t (omega arith) in omega (arith, k)

  pub any_times : (m : X → Bool) (n : ℕ) (v : X) (rest : List X) → 0 < n → list_any m (times n v ++ rest) ≡ (m v || list_any m rest)
  any_times m zero v rest lt = absurd (omega arith)
  any_times m (suc zero) v rest lt = refl
  any_times m (suc (suc n)) v rest lt = ap (λ b. m v || b) (any_times m (suc n) v rest (omega arith)) ∙ or_twice (m v) (list_any m rest)

-- the window's values
pub window_spread : (pairs : List (ℕ × Value)) (s t : ℕ) → s < t → 0 < length pairs → spread (runs_of pairs s t) ≡ over_days (day_value pairs) s t
window_spread [] s t lt some = absurd (omega arith)
window_spread (p ∷ l) s t lt some = runs_spread p.1 l s t (omega arith)

-- a window that is empty
pub no_days : {X : Type 0} (x : ℕ → X) (s t : ℕ) → t ≤ s → over_days x s t ≡ []
no_days x s t le = let e : t - s ≡ 0 = omega arith in ap (λ n. map x (days s n)) e
