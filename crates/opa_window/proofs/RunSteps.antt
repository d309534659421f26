-- One run more, for each thing that is made of runs.
use Rattle.std.proofs.Common.{◌≡◌, ℕ, zero, suc, ◌+◌, ◌<◌, ◌≤◌, Bool, true, false, List, [], ◌∷◌, ◌++◌, length, refl, sym, ◌∙◌, ap, subst, arith}
use Rattle.std.specs.Prelude.{◌||◌, slice_index_or, max, if◌then◌else◌}
use Rattle.std.specs.List.{list_any}
use Rattle.opa_value.specs.declared.value.Value.{Value}
use Rattle.opa_value.specs.Truth.{is_true}
use Rattle.opa_window.specs.Folds.{best_from, best, true_ahead, longest}
use Rattle.opa_window.specs.Runs.{times, spread, shown, AreLong, day_count}
use Rattle.opa_window.proofs.Stretching.{after, after_is}
use Rattle.opa_window.proofs.Spreading.{any_times}
use denote.Ref.{Bor}

-- the first run, and those after it
pub shown_step : {X : Type 0} (rest : List (ℕ × Bor X)) (q : ℕ × Bor X) → 1 ≤ length rest → q ≡ slice_index_or rest 0 q → shown rest ≡ (q.0, q.1.now) ∷ shown (after rest)
shown_step [] q some is = absurd (omega arith)
shown_step (p ∷ l) q some is = ap (λ (r : ℕ × Bor _). (r.0, r.1.now) ∷ shown l) (sym is) ∙ ap (λ m. (q.0, q.1.now) ∷ shown m) (sym (after_is p l))

module _ {X : Type 0} (rs new : List (ℕ × X)) (n : ℕ) (v : X) (is : rs ≡ (n, v) ∷ new) (long : AreLong rs) where
  pub long_step : (0 < n) × AreLong new
  long_step = subst AreLong is long

  pub any_step : (m : X → Bool) → list_any m (spread rs) ≡ (m v || list_any m (spread new))
  any_step m = ap (λ l. list_any m (spread l)) is ∙ any_times m n v (spread new) long_step.0

-- whether a value of the whole occurs is whether one of the rest does
pub record Occurring {X : Type 0} (m : X → Bool) (whole rest : List (ℕ × X)) : Type 0 where
  pub long : AreLong rest
  pub same : list_any m (spread rest) ≡ list_any m (spread whole)

pub occurs_not : {X : Type 0} (m : X → Bool) (whole rs new : List (ℕ × X)) (n : ℕ) (v : X) → rs ≡ (n, v) ∷ new → Occurring m whole rs → m v ≡ false → Occurring m whole new
occurs_not m whole rs new n v is o off = record {
  long = (long_step rs new n v is o.long).1;
  same = sym (any_step rs new n v is o.long m ∙ ap (λ b. b || list_any m (spread new)) off) ∙ o.same;
}

pub occurs_here : {X : Type 0} (m : X → Bool) (whole rs new : List (ℕ × X)) (n : ℕ) (v : X) → rs ≡ (n, v) ∷ new → Occurring m whole rs → m v ≡ true → list_any m (spread whole) ≡ true
occurs_here m whole rs new n v is o on = sym o.same ∙ any_step rs new n v is o.long m ∙ ap (λ b. b || list_any m (spread new)) on

module _ (is_beaten : Value → Value → Bool) (never : (v : Value) → is_beaten v v ≡ false) where
  again : (w v : Value) → (b : Bool) → is_beaten w v ≡ b → (if is_beaten (if b then v else w) v then v else if b then v else w) ≡ (if b then v else w)
  again w v true e = rw (never v) refl
  again w v false e = rw e refl

  best_times : (n : ℕ) (w v : Value) (rest : List Value) → 0 < n → best_from is_beaten w (times n v ++ rest) ≡ best_from is_beaten (if is_beaten w v then v else w) rest
  best_times zero w v rest lt = absurd (omega arith)
  best_times (suc zero) w v rest lt = refl
  best_times (suc (suc n)) w v rest lt =
      best_times (suc n) (if is_beaten w v then v else w) v rest (omega arith)
      ∙ ap (λ x. best_from is_beaten x rest) (again w v (is_beaten w v) refl)

  -- the best of v and the values does not change where v is among them again
  pub best_same : (n : ℕ) (v : Value) (rest : List Value) → best_from is_beaten v (times n v ++ rest) ≡ best_from is_beaten v rest
  best_same zero v rest = refl
  best_same (suc n) v rest = best_times (suc n) v v rest (omega arith) ∙ ap (λ (b : Bool). best_from is_beaten (if b then v else v) rest) (never v)

  -- the best of the whole is that of the best so far and the rest
  pub record Choosing (first : Value) (whole : List (ℕ × Value)) (so_far : Value) (rest : List (ℕ × Value)) : Type 0 where
    pub long : AreLong rest
    pub same : best_from is_beaten so_far (spread rest) ≡ best_from is_beaten first (spread whole)

  pub choose_next : (first : Value) (whole : List (ℕ × Value)) (so_far next : Value) (rs new : List (ℕ × Value)) (n : ℕ) (v : Value) → rs ≡ (n, v) ∷ new → Choosing first whole so_far rs
      → next ≡ (if is_beaten so_far v then v else so_far) → Choosing first whole next new
  choose_next first whole so_far next rs new n v is s chosen = record {
    long = (long_step rs new n v is s.long).1;
    same = ap (λ x. best_from is_beaten x (spread new)) chosen
        ∙ sym (ap (λ l. best_from is_beaten so_far (spread l)) is ∙ best_times n so_far v (spread new) (long_step rs new n v is s.long).0)
        ∙ s.same;
  }

  pub best_first : (rs new : List (ℕ × Value)) (n : ℕ) (v : Value) → rs ≡ (n, v) ∷ new → AreLong rs → best_from is_beaten v (spread new) ≡ best is_beaten (spread rs)
  best_first rs new zero v is long = absurd (omega (arith, (long_step rs new zero v is long).0))
  best_first rs new (suc n) v is long = sym (best_same n v (spread new)) ∙ sym (ap (λ l. best is_beaten (spread l)) is)

-- the longest run of true values
ahead_true : (n : ℕ) (v : Value) (rest : List Value) → is_true v ≡ true → true_ahead (times n v ++ rest) ≡ n + true_ahead rest
ahead_true zero v rest e = omega arith
ahead_true (suc n) v rest e = rw e (omega (arith, ahead_true n v rest e))

ahead_false : (n : ℕ) (v : Value) (rest : List Value) → 0 < n → is_true v ≡ false → true_ahead (times n v ++ rest) ≡ 0
ahead_false zero v rest lt e = absurd (omega arith)
ahead_false (suc n) v rest lt e = rw e refl

pub ahead_at_most : (vs : List Value) → true_ahead vs ≤ longest vs
ahead_at_most [] = omega arith
ahead_at_most (v ∷ vs) = omega arith

pub longest_true : (n : ℕ) (v : Value) (rest : List Value) → is_true v ≡ true → longest (times n v ++ rest) ≡ max (n + true_ahead rest) (longest rest)
longest_true zero v rest e = omega (arith, ahead_at_most rest)
longest_true (suc n) v rest e =
    ap (λ k. max k (longest (times n v ++ rest))) (ahead_true (suc n) v rest e) ∙ ap (λ k. max (suc n + true_ahead rest) k) (longest_true n v rest e) ∙ omega arith

longest_false : (n : ℕ) (v : Value) (rest : List Value) → is_true v ≡ false → longest (times n v ++ rest) ≡ longest rest
longest_false zero v rest e = refl
longest_false (suc n) v rest e =
    ap (λ k. max k (longest (times n v ++ rest))) (ahead_false (suc n) v rest (omega arith) e) ∙ ap (λ k. max 0 k) (longest_false n v rest e) ∙ omega arith

-- the longest run of the whole is the longest so far, or it begins in the run that has not ended, or it lies in the rest
pub record Running (whole : List (ℕ × Value)) (most current : ℕ) (rest : List (ℕ × Value)) : Type 0 where
  pub long : AreLong rest
  pub ended : current ≤ most
  pub same : max most (max (current + true_ahead (spread rest)) (longest (spread rest))) ≡ longest (spread whole)
  pub days : current + day_count rest ≤ day_count whole

pub run_start : (whole : List (ℕ × Value)) → AreLong whole → Running whole 0 0 whole
run_start whole long = record { long = long; ended = omega arith; same = omega (arith, ahead_at_most (spread whole)); days = omega arith }

pub run_next : (whole rs new : List (ℕ × Value)) (most current next : ℕ) (n : ℕ) (v : Value) → rs ≡ (n, v) ∷ new → Running whole most current rs
    → next ≡ (if is_true v then current + n else 0) → Running whole (max most next) next new
run_next whole rs new most current next n v is r chosen = go (is_true v) refl
  where
    days : day_count rs ≡ n + day_count new
    days = ap day_count is

    a : max most (max (current + true_ahead (times n v ++ spread new)) (longest (times n v ++ spread new))) ≡ longest (spread whole)
    a = ap (λ l. max most (max (current + true_ahead (spread l)) (longest (spread l)))) (sym is) ∙ r.same

    go : (b : Bool) → is_true v ≡ b → Running whole (max most next) next new
    go true e =
        let k : next ≡ current + n = chosen ∙ ap (λ (b : Bool). if b then current + n else 0) e in
        record {
          long = (long_step rs new n v is r.long).1;
          ended = omega arith;
          same = omega (arith, a, k, ahead_true n v (spread new) e, longest_true n v (spread new) e, ahead_at_most (spread new), r.ended);
          days = omega (arith, days, k, r.days);
        }
    go false e =
        let k : next ≡ 0 = chosen ∙ ap (λ (b : Bool). if b then current + n else 0) e in
        record {
          long = (long_step rs new n v is r.long).1;
          ended = omega arith;
          same = omega (arith, a, k, ahead_false n v (spread new) (long_step rs new n v is r.long).0 e, longest_false n v (spread new) e, ahead_at_most (spread new), r.ended);
          days = omega (arith, days, k, r.days);
        }
