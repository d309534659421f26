-- Brackets and their partners.
use Rattle.std.proofs.Common.{◌≡◌, ℕ, zero, suc, ◌+◌, ◌-◌, ◌==◌, arith, Bool, true, false, not, ◌&&◌, if◌then◌else◌, List, [], ◌∷◌, refl, sym, ap, ◌∙◌}
use Rattle.opa_words.specs.declared.kinds.Token.{Token}
use Rattle.opa_rules.specs.Faults.Brackets.{is_sign, is_none, closes_none, open_behind, stray, stays_open, unclosed}

choose : {X : Type 0} (b c : Bool) (x y : X) → b ≡ c → (if b then x else y) ≡ (if c then x else y)
choose b c x y e = ap (λ d. if d then x else y) e

chosen : {X : Type 0} (n : ℕ) (x : X) (f : ℕ → X) → (n ≡ 0 → ⊥) → (if n == 0 then x else f n) ≡ f n
chosen n x f h = grind arith

module _ (text opening closing : List ℕ) where
  -- behind a token that isn't the one that is looked for
  pub stray_on : (n m : ℕ) (rest : List Token) (t : Token) (ts : List Token) → rest ≡ t ∷ ts → closes_none text opening closing n t ≡ false → m ≡ open_behind text opening closing n t
      → stray text opening closing m ts ≡ stray text opening closing n rest
  stray_on n m rest t ts r c e =
      sym (ap (stray text opening closing n) r ∙ choose (closes_none text opening closing n t) false (t ∷ ts) (stray text opening closing (open_behind text opening closing n t) ts) c ∙ ap (λ k. stray text opening closing k ts) (sym e))

  module _ (t : Token) (ts : List Token) where
    -- what is left behind a closing bracket
    closing_at : ℕ → List Token
    closing_at n = if n == 0 then t ∷ ts else stray text opening closing (n - 1) ts

    at_more : (n : ℕ) → closing_at (n + 1) ≡ stray text opening closing n ts
    unfolding closing_at
    at_more n =
        let same : n + 1 - 1 ≡ n = omega arith in
        chosen (n + 1) (t ∷ ts) (λ k. stray text opening closing (k - 1) ts) (λ z. omega (arith, z)) ∙ ap (λ k. stray text opening closing k ts) same

    at_suc : (n : ℕ) → closing_at (suc n) ≡ stray text opening closing n ts
    at_suc n = let same : suc n ≡ n + 1 = omega arith in ap closing_at same ∙ at_more n

    -- where a bracket is left that closes none of more, one is left that closes none of fewer
    step : (n : ℕ) (o c : Bool)
        → ((m : ℕ) → is_none (stray text opening closing (m + 1) ts) ≡ false → is_none (stray text opening closing m ts) ≡ false)
        → is_none (if not o && c && (n + 1 == 0) then t ∷ ts else stray text opening closing (if o then n + 1 + 1 else if c then n + 1 - 1 else n + 1) ts) ≡ false
        → is_none (if not o && c && (n == 0) then t ∷ ts else stray text opening closing (if o then n + 1 else if c then n - 1 else n) ts) ≡ false
    unfolding closing_at
    step n true c h e = h (n + 1) e
    step n false false h e = h n e
    step zero false true h e = refl
    step (suc n) false true h e =
        let more : suc n ≡ n + 1 = omega arith in
        ap is_none (at_suc n) ∙ h n (ap (λ k. is_none (stray text opening closing k ts)) (sym more) ∙ sym (ap is_none (at_more (suc n))) ∙ e)

    -- all brackets are closed before one that closes none
    inside : (n : ℕ) (o c : Bool) (u : Token) (us : List Token)
        → ((m : ℕ) → stray text opening closing m ts ≡ u ∷ us → unclosed text opening closing ts ≡ unclosed text opening closing us)
        → ((m : ℕ) → stray text opening closing m ts ≡ u ∷ us → is_none (stray text opening closing 0 ts) ≡ false)
        → (if not o && c && (n == 0) then t ∷ ts else stray text opening closing (if o then n + 1 else if c then n - 1 else n) ts) ≡ u ∷ us
        → (if o && is_none (stray text opening closing 0 ts) then t ∷ ts else unclosed text opening closing ts) ≡ unclosed text opening closing us
    unfolding closing_at
    inside n true c u us h closed e = choose (is_none (stray text opening closing 0 ts)) false (t ∷ ts) (unclosed text opening closing ts) (closed (n + 1) e) ∙ h (n + 1) e
    inside n false false u us h closed e = h n e
    inside zero false true u us h closed e = let f : t ∷ ts ≡ u ∷ us = e in let g : ts ≡ us = cc f in ap (unclosed text opening closing) g
    inside (suc n) false true u us h closed e = h n (sym (at_suc n) ∙ e)

  fewer : (ts : List Token) (n : ℕ) → is_none (stray text opening closing (n + 1) ts) ≡ false → is_none (stray text opening closing n ts) ≡ false
  fewer [] n e = e
  fewer (t ∷ ts) n e = step t ts n (is_sign text opening t) (is_sign text closing t) (fewer ts) e

  none_open : (ts : List Token) (n : ℕ) → is_none (stray text opening closing n ts) ≡ false → is_none (stray text opening closing 0 ts) ≡ false
  none_open ts zero e = e
  none_open ts (suc n) e =
      let more : n + 1 ≡ suc n = omega arith in
      none_open ts n (fewer ts n (ap (λ k. is_none (stray text opening closing k ts)) more ∙ e))

  past_partner : (ts : List Token) (n : ℕ) (u : Token) (us : List Token) → stray text opening closing n ts ≡ u ∷ us → unclosed text opening closing ts ≡ unclosed text opening closing us
  past_partner [] n u us e = absurd (cc e)
  past_partner (t ∷ ts) n u us e =
      inside t ts n (is_sign text opening t) (is_sign text closing t) u us (λ m. past_partner ts m u us) (λ m k. none_open ts m (ap is_none k)) e

  -- ---- an opening bracket, and what is left from the one on that closes it

  pub stays_at : (t : Token) (ts xs : List Token) → is_sign text opening t ≡ true → xs ≡ stray text opening closing 0 ts → xs ≡ [] → stays_open text opening closing t ts ≡ true
  stays_at t ts xs o e f = ap (λ b. b && is_none (stray text opening closing 0 ts)) o ∙ ap is_none (sym e ∙ f)

  and_false : (b : Bool) → (b && false) ≡ false
  and_false true = refl
  and_false false = refl

  pub closed_at : (t : Token) (ts xs : List Token) (u : Token) (us : List Token) → xs ≡ stray text opening closing 0 ts → xs ≡ u ∷ us → stays_open text opening closing t ts ≡ false
  closed_at t ts xs u us e f = ap (λ ys. is_sign text opening t && is_none ys) (sym e ∙ f) ∙ and_false (is_sign text opening t)

  pub plain_at : (t : Token) (ts : List Token) → is_sign text opening t ≡ false → stays_open text opening closing t ts ≡ false
  plain_at t ts o = ap (λ b. b && is_none (stray text opening closing 0 ts)) o

  pub same_at : (ts xs : List Token) (u : Token) (us : List Token) → xs ≡ stray text opening closing 0 ts → xs ≡ u ∷ us → unclosed text opening closing ts ≡ unclosed text opening closing us
  same_at ts xs u us e f = past_partner ts 0 u us (sym e ∙ f)

  pub unclosed_on : (rest : List Token) (t : Token) (ts : List Token) → rest ≡ t ∷ ts → stays_open text opening closing t ts ≡ false → unclosed text opening closing ts ≡ unclosed text opening closing rest
  unclosed_on rest t ts r c = sym (ap (unclosed text opening closing) r ∙ choose (stays_open text opening closing t ts) false (t ∷ ts) (unclosed text opening closing ts) c)

pub ruleset partners = (stays_at, closed_at, plain_at, same_at)
