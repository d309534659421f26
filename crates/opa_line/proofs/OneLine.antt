-- Two lines with equal values at every day are equal, and canon is the line of its function.
use Rattle.std.proofs.Common.{◌≡◌, ◌≢◌, ◌⊎◌, inl, inr, ℕ, zero, suc, ◌+◌, ◌-◌, ◌<◌, ◌≤◌, Bool, true, false, cond, List, [], ◌∷◌, Some, refl, sym, ◌∙◌, ap, subst, arith}
use Rattle.std.specs.Prelude.{◌↔◌}
use Rattle.std.proofs.lemmas.Bool.{le-leb, lt-leb, cases_order}
use Rattle.opa_line.specs.Lines.{value_from, at, Follows, IsLine, StandsFor, changes, canon}

module _ {X : Type 0} where
  -- before its first day a line has the value before
  before : (end d : ℕ) (v : X) (l : List (ℕ × X)) (e : ℕ) → Follows end d v l → e ≤ d → value_from v l e ≡ v
  before end d v [] e h le = refl
  before end d v (p ∷ l) e h le = let lt : e < p.0 = omega (arith, h.0) in ap (λ b. cond b (value_from p.1 l e) v) (lt-leb p.0 e lt)

  -- at its first day it has its first value
  on : (end d : ℕ) (v : X) (p : ℕ × X) (l : List (ℕ × X)) → Follows end d v (p ∷ l) → value_from v (p ∷ l) p.0 ≡ p.1
  on end d v p l h = ap (λ b. cond b (value_from p.1 l p.0) v) (le-leb p.0 p.0 (omega arith)) ∙ before end p.0 p.1 l p.0 h.3 (omega arith)

  -- before the first pair's day
  early : (v : X) (p : ℕ × X) (l : List (ℕ × X)) (e : ℕ) → e < p.0 → value_from v (p ∷ l) e ≡ v
  early v p l e lt = ap (λ b. cond b (value_from p.1 l e) v) (lt-leb p.0 e lt)

  later : (v : X) (p : ℕ × X) (l : List (ℕ × X)) (e : ℕ) → p.0 ≤ e → value_from v (p ∷ l) e ≡ value_from p.1 l e
  later v p l e le = ap (λ b. cond b (value_from p.1 l e) v) (le-leb p.0 e le)

  same_rest : (end d : ℕ) (v : X) (l m : List (ℕ × X)) → Follows end d v l → Follows end d v m → ((e : ℕ) → d ≤ e → e < end → value_from v l e ≡ value_from v m e) → l ≡ m
  same_rest end d v [] [] hl hm eq = refl
  same_rest end d v [] (q ∷ m) hl hm eq = absurd (hm.2 (sym (eq q.0 (omega (arith, hm.0)) hm.1 ∙ on end d v q m hm)))
  same_rest end d v (p ∷ l) [] hl hm eq = absurd (hl.2 (sym (on end d v p l hl) ∙ eq p.0 (omega (arith, hl.0)) hl.1))
  same_rest end d v (p ∷ l) (q ∷ m) hl hm eq = go (cases_order p.0 q.0) (λ h k. same_rest end p.0 p.1 l m hl.3 h k)
    where
      go : (p.0 ≡ q.0) ⊎ ((p.0 < q.0) ⊎ (q.0 < p.0)) → (Follows end p.0 p.1 m → ((e : ℕ) → p.0 ≤ e → e < end → value_from p.1 l e ≡ value_from p.1 m e) → l ≡ m) → p ∷ l ≡ q ∷ m
      go (inl days) rest =
          let on_p = ap (value_from v (p ∷ l)) (sym days) ∙ on end d v p l hl in
          let values : p.1 ≡ q.1 = sym on_p ∙ eq q.0 (omega (arith, hm.0)) hm.1 ∙ on end d v q m hm in
          let follows = subst (λ k. Follows end k p.1 m) (sym days) (subst (λ w. Follows end q.0 w m) (sym values) hm.3) in
          let tails = rest follows (λ e le lt.
          let le' : q.0 ≤ e = omega (arith, days) in
          sym (later v p l e le) ∙ eq e (omega (arith, hl.0)) lt ∙ later v q m e le' ∙ ap (λ w. value_from w m e) (sym values)) in
          ap (λ k. (k, p.1) ∷ l) days ∙ ap (λ w. (q.0, w) ∷ l) values ∙ ap (λ xs. q ∷ xs) tails
      go (inr (inl lt)) rest = absurd (hl.2 (sym (on end d v p l hl) ∙ eq p.0 (omega (arith, hl.0)) hl.1 ∙ early v q m p.0 lt))
      go (inr (inr lt)) rest = absurd (hm.2 (sym (on end d v q m hm) ∙ sym (eq q.0 (omega (arith, hm.0)) hm.1) ∙ early v p l q.0 lt))

  -- equal at every day, equal
  pub same_line : (end : ℕ) (l m : List (ℕ × X)) → IsLine end l → IsLine end m → ((d : ℕ) → d < end → at l d ≡ at m d) → 0 < end → l ≡ m
  same_line end [] m hl hm eq pos = absurd hl
  same_line end (p ∷ l) [] hl hm eq pos = absurd hm
  same_line end (p ∷ l) (q ∷ m) hl hm eq pos =
      let first : p.1 ≡ q.1 = sym (before end 0 p.1 l 0 hl.1 (omega arith)) ∙ some_same (eq 0 pos) ∙ before end 0 q.1 m 0 hm.1 (omega arith) in
      let tails = same_rest end 0 p.1 l m hl.1 (subst (λ w. Follows end 0 w m) (sym first) hm.1) (λ e _ lt. some_same (eq e lt) ∙ ap (λ w. value_from w m e) (sym first)) in
      ap (λ k. (k, p.1) ∷ l) (hl.0 ∙ sym hm.0) ∙ ap (λ w. (q.0, w) ∷ l) first ∙ ap (λ xs. q ∷ xs) tails
    where
      some_same : {a b : X} → Some a ≡ Some b → a ≡ b
      some_same e = cc e

  module _ (same : X → X → Bool) (exact : (x y : X) → (same x y ≡ true) ↔ (x ≡ y)) where
    not_same : (x y : X) → same x y ≡ false → x ≢ y
    not_same x y e q = cc (e, (exact x y).1 q)

    changes_follow : (f : ℕ → X) (n d k : ℕ) (v : X) (end : ℕ) → k < d → d + n ≡ end → Follows end k v (changes same f d v n)
    unfolding changes
    changes_follow f zero d k v end lt e = tt
    changes_follow f (suc n) d k v end lt e = go (same (f d) v) refl (changes_follow f n (d + 1) k v end (omega arith) (omega arith)) (changes_follow f n (d + 1) d (f d) end (omega arith) (omega arith))
      where
        go : (b : Bool) → same (f d) v ≡ b → Follows end k v (changes same f (d + 1) v n) → Follows end d (f d) (changes same f (d + 1) (f d) n) → Follows end k v (cond b (changes same f (d + 1) v n) ((d, f d) ∷ changes same f (d + 1) (f d) n))
        go true q a b = a
        go false q a b = (lt, omega arith, not_same (f d) v q, b)

    changes_value : (f : ℕ → X) (n d : ℕ) (v : X) (e : ℕ) → d ≤ e → e < d + n → value_from v (changes same f d v n) e ≡ f e
    unfolding changes
    changes_value f zero d v e le lt = absurd (omega arith)
    changes_value f (suc n) d v e le lt = go (same (f d) v) refl (cases_order d e) (λ w le'. changes_value f n (d + 1) w e le' (omega arith))
      where
        unchanged : (w : X) → w ≡ f d → e ≡ d → value_from w (changes same f (d + 1) w n) e ≡ f e
        unchanged w is day = before (d + 1 + n) d w (changes same f (d + 1) w n) e (changes_follow f n (d + 1) d w (d + 1 + n) (omega arith) refl) (omega arith) ∙ is ∙ ap f (sym day)

        go : (b : Bool) → same (f d) v ≡ b → (d ≡ e) ⊎ ((d < e) ⊎ (e < d)) → ((w : X) → d + 1 ≤ e → value_from w (changes same f (d + 1) w n) e ≡ f e) → value_from v (cond b (changes same f (d + 1) v n) ((d, f d) ∷ changes same f (d + 1) (f d) n)) e ≡ f e
        go true q (inl day) rest = unchanged v (sym ((exact (f d) v).0 q)) (sym day)
        go true q (inr (inl more)) rest = rest v (omega arith)
        go false q (inl day) rest = later v (d, f d) _ e (omega arith) ∙ unchanged (f d) refl (sym day)
        go false q (inr (inl more)) rest = later v (d, f d) _ e (omega arith) ∙ rest (f d) (omega arith)
        go b q (inr (inr less)) rest = absurd (omega arith)

    -- canon is a line, and stands for its function
    pub canon_is_line : (end : ℕ) (f : ℕ → X) → 0 < end → IsLine end (canon same end f)
    unfolding canon
    canon_is_line end f pos = (refl, changes_follow f (end - 1) 1 0 (f 0) end (omega arith) (omega arith))

    pub canon_stands_for : (end : ℕ) (f : ℕ → X) → StandsFor end f (canon same end f)
    unfolding canon
    canon_stands_for end f zero lt = ap Some (before end 0 (f 0) (changes same f 1 (f 0) (end - 1)) 0 (changes_follow f (end - 1) 1 0 (f 0) end (omega arith) (omega arith)) (omega arith))
    canon_stands_for end f (suc d) lt = ap Some (changes_value f (end - 1) 1 (f 0) (suc d) (omega arith) (omega arith))

    -- the line that stands for a function is canon of it
    pub is_canon : (end : ℕ) (f : ℕ → X) (l : List (ℕ × X)) → 0 < end → IsLine end l → StandsFor end f l → l ≡ canon same end f
    is_canon end f l pos is stands = same_line end l (canon same end f) is (canon_is_line end f pos) (λ d lt. stands d lt ∙ sym (canon_stands_for end f d lt)) pos
