-- What was seen on the last days.
use Rattle.std.proofs.Common.{◌≡◌, ◌⊎◌, inl, inr, ℕ, zero, suc, ◌+◌, ◌-◌, ◌<◌, ◌≤◌, Bool, true, false, List, [], ◌∷◌, Some, map, length, refl, sym, ◌∙◌, ap, subst, arith}
use Rattle.std.specs.Prelude.{nat_lt, ◌||◌, cond, slice_index_or}
use Rattle.std.specs.List.{list_any}
use Rattle.std.proofs.lemmas.Bool.{cases_order}
use Rattle.opa_date.specs.declared.TheConstants.{DAYS}
use Rattle.opa_line.specs.Lines.{at, value_or, IsLine}
use Rattle.opa_window.specs.Days.{days}
use Rattle.opa_window.specs.Marks.{seen}
use Rattle.opa_window.specs.Stretches.{Reaches, start_of}
use Rattle.opa_window.proofs.Stretching.{after, after_is, starts, Ahead, ahead_start, next_ahead, on_stretch}

any_true : (f : ℕ → Bool) (s n e : ℕ) → s ≤ e → e < s + n → f e ≡ true → list_any (λ b. b) (map f (days s n)) ≡ true
any_true f s zero e le lt is = absurd (omega arith)
any_true f s (suc n) e le lt is = go (f s) refl
    (λ more. any_true f (s + 1) n e more (omega arith) is)
  where
    here : (b : Bool) (r : Bool) → b ≡ true → (b || r) ≡ true
    here true r is = refl
    here false r is = cc is

    there : (b : Bool) (r : Bool) → r ≡ true → (b || r) ≡ true
    there true r is = refl
    there false r is = is

    go : (b : Bool) → f s ≡ b → (s + 1 ≤ e → list_any (λ b. b) (map f (days (s + 1) n)) ≡ true) → (f s || list_any (λ b. b) (map f (days (s + 1) n))) ≡ true
    go true eq rest = here (f s) _ eq
    go false eq rest = there (f s) _ (rest (later (cases_order s e)))
      where
        later : (s ≡ e) ⊎ ((s < e) ⊎ (e < s)) → s + 1 ≤ e
        later (inl same) = cc (is, eq, same)
        later (inr (inl lt)) = omega arith
        later (inr (inr lt)) = absurd (omega arith)

any_false : (f : ℕ → Bool) (s n : ℕ) → ((e : ℕ) → s ≤ e → e < s + n → f e ≡ false) → list_any (λ b. b) (map f (days s n)) ≡ false
any_false f s zero h = refl
any_false f s (suc n) h = ap (λ b. b || list_any (λ b. b) (map f (days (s + 1) n))) (h s (omega arith) (omega arith)) ∙ any_false f (s + 1) n (λ e le lt. h e (omega arith) (omega arith))

-- each day below a on which it was so fades by then, and one of them fades then
pub record Faded (f : ℕ → Bool) (n a fades : ℕ) : Type 0 where
  pub all : (e : ℕ) → e < a → f e ≡ true → e + n ≤ fades
  pub last : 0 < fades → (e : ℕ) × (e < a) × (e + n ≡ fades) × (f e ≡ true)

seen_in : (f : ℕ → Bool) (n a c fades : ℕ) (on : Bool) → 0 < n → Faded f n a fades → ((d : ℕ) → a ≤ d → d < c → f d ≡ on) → (d : ℕ) → a ≤ d → d < c → seen n f d ≡ (on || nat_lt d fades)
seen_in f n a c fades true pos h is d le lt = any_true f (d + 1 - n) (d + 1 - (d + 1 - n)) d (omega arith) (omega arith) (is d le lt)
seen_in f n a c fades false pos h is d le lt = go (nat_lt d fades) refl
  where
    none : (fades ≤ d) → (e : ℕ) → d + 1 - n ≤ e → e < d + 1 → (b : Bool) → f e ≡ b → f e ≡ false
    none old e from to false eq = eq
    none old e from to true eq = by (cases_order e a)
      where
        by : (e ≡ a) ⊎ ((e < a) ⊎ (a < e)) → f e ≡ false
        by (inl same) = is e (omega arith) (omega arith)
        by (inr (inl less)) = let k : e + n ≤ fades = h.all e less eq in absurd (omega arith)
        by (inr (inr more)) = is e (omega arith) (omega arith)

    go : (b : Bool) → nat_lt d fades ≡ b → seen n f d ≡ b
    go true eq = let below : d < fades = grind (arith, eq) in let l = h.last (omega arith) in
        let e1 : l.0 + n ≡ fades = l.2 in let e2 : l.0 < a = l.1 in
        any_true f (d + 1 - n) (d + 1 - (d + 1 - n)) l.0 (omega arith) (omega arith) l.3
    go false eq = let old : fades ≤ d = grind (arith, eq) in any_false f (d + 1 - n) (d + 1 - (d + 1 - n)) (λ e from to. none old e from (omega arith) (f e) refl)

module _ {X : Type 0} (m : X → Bool) (x : X) (n : ℕ) (xs : List (ℕ × X)) where
  -- whether the value of a day has the mark
  abbrev pub marked : ℕ → Bool
  marked d = m (value_or x (at xs d))

  -- up to the first day of the rest all is done
  pub record Going (rest : List (ℕ × X)) (fades : ℕ) (out : ℕ × List (ℕ × Bool)) : Type 0 where
    pub upto : out.0 ≡ start_of rest
    pub ahead : Ahead xs rest
    pub faded : Faded marked n (start_of rest) fades
    pub done : (d : ℕ) → d < start_of rest → at out.1 d ≡ Some (seen n marked d)

  pub going_start : (rest : List (ℕ × X)) (out : ℕ × List (ℕ × Bool)) → IsLine DAYS xs → rest ≡ xs → out ≡ (0, []) → Going rest 0 out
  going_start rest out form is begun =
      let a = ahead_start xs rest form is in
      record {
        upto = ap (λ o. o.0) begun ∙ sym a.1;
        ahead = a.0;
        faded = record { all = λ e lt _. absurd (omega (arith, a.1)); last = λ pos. absurd (omega arith) };
        done = λ d lt. absurd (omega (arith, a.1));
      }

  going_next : (p : ℕ × X) (l : List (ℕ × X)) (fades fades' : ℕ) (out new : ℕ × List (ℕ × Bool)) → 0 < n → Going (p ∷ l) fades out → Reaches out (start_of l) (λ d. m p.1 || nat_lt d fades) new → fades' ≡ cond (m p.1) (start_of l + n - 1) fades → Going l fades' new
  going_next p l fades fades' out new pos g filled is =
      let s = starts p.0 p.1 l g.ahead.1 g.ahead.0 in
      let first : (d : ℕ) → p.0 ≤ d → d < start_of l → marked d ≡ m p.1 = λ d le lt. ap (λ v. m (value_or x v)) (on_stretch xs p l g.ahead d le lt) in
      record {
        upto = filled.upto;
        ahead = next_ahead xs p l g.ahead;
        faded = subst (λ k. Faded marked n (start_of l) k) (sym is) (fade (m p.1) s.0 first);
        done = λ d lt. by_day d lt (cases_order d p.0) first;
      }
    where
      fade : (b : Bool) → p.0 < start_of l → ((d : ℕ) → p.0 ≤ d → d < start_of l → marked d ≡ b) → Faded marked n (start_of l) (cond b (start_of l + n - 1) fades)
      fade true lt h = record { all = λ e below _. omega arith; last = λ _. (start_of l - 1, omega arith, omega arith, h (start_of l - 1) (omega arith) (omega arith)) }
      fade false lt h = record { all = λ e below on. old e below on (cases_order e p.0); last = λ some. let k = g.faded.last some in (k.0, omega (arith, k.1), k.2, k.3) }
        where
          old : (e : ℕ) → e < start_of l → marked e ≡ true → (e ≡ p.0) ⊎ ((e < p.0) ⊎ (p.0 < e)) → e + n ≤ fades
          old e below on (inl same) = cc (on, h e (omega arith) below)
          old e below on (inr (inl less)) = g.faded.all e less on
          old e below on (inr (inr more)) = cc (on, h e (omega arith) below)

      by_day : (d : ℕ) → d < start_of l → (d ≡ p.0) ⊎ ((d < p.0) ⊎ (p.0 < d)) → ((d : ℕ) → p.0 ≤ d → d < start_of l → marked d ≡ m p.1) → at new.1 d ≡ Some (seen n marked d)
      by_day d lt (inr (inl less)) first = filled.before d (omega (arith, g.upto)) ∙ g.done d less
      by_day d lt (inl same) first = filled.from d (omega (arith, g.upto)) lt ∙ ap Some (sym (seen_in marked n p.0 (start_of l) fades (m p.1) pos g.faded first d (omega arith) lt))
      by_day d lt (inr (inr more)) first = filled.from d (omega (arith, g.upto)) lt ∙ ap Some (sym (seen_in marked n p.0 (start_of l) fades (m p.1) pos g.faded first d (omega arith) lt))

  pub going_step : (rest : List (ℕ × X)) (q : ℕ × X) (to : ℕ) (on : Bool) (fades fades' : ℕ) (out new : ℕ × List (ℕ × Bool)) → 0 < n → 1 ≤ length rest → q ≡ slice_index_or rest 0 q → Going rest fades out → to ≡ start_of (after rest) → on ≡ m q.1
      → Reaches out to (λ d. on || nat_lt d fades) new → fades' ≡ cond on (to + n - 1) fades → Going (after rest) fades' new
  going_step [] q to on fades fades' out new pos some is g days marks filled fade = absurd (omega arith)
  going_step (p ∷ l) q to on fades fades' out new pos some is g days marks filled fade =
      let t : to ≡ start_of l = days ∙ ap start_of (after_is p l) in
      let o : on ≡ m p.1 = marks ∙ ap (λ r. m r.1) is in
      subst (λ r. Going r fades' new) (sym (after_is p l))
      (going_next p l fades fades' out new pos g
      (subst (λ k. Reaches out k (λ d. m p.1 || nat_lt d fades) new) t (subst (λ b. Reaches out to (λ d. b || nat_lt d fades) new) o filled))
      (fade ∙ ap (λ b. cond b (to + n - 1) fades) o ∙ ap (λ k. cond (m p.1) (k + n - 1) fades) t))

  pub step_order : (rest : List (ℕ × X)) (fades : ℕ) (out : ℕ × List (ℕ × Bool)) → 1 ≤ length rest → Going rest fades out → (out.0 < start_of (after rest)) × (start_of (after rest) ≤ DAYS)
  step_order [] fades out some g = absurd (omega arith)
  step_order (p ∷ l) fades out some g =
      let s = starts p.0 p.1 l g.ahead.1 g.ahead.0 in
      subst (λ r. (out.0 < start_of r) × (start_of r ≤ DAYS)) (sym (after_is p l)) (omega (arith, s.0, g.upto), s.1)
