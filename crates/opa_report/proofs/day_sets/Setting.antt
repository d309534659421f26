-- Sets of days have what their parts have.
use Rattle.std.proofs.Common.{◌≡◌, ◌⊎◌, inl, inr, ℕ, ◌<◌, ◌≤◌, Bool, true, false, cond, ◌||◌, List, [], ◌∷◌, Option, None, Some, refl, sym, ◌∙◌, ap, arith}
use Rattle.std.specs.Prelude.{nat_le}
use Rattle.std.specs.List.{list_any}
use Rattle.std.proofs.lemmas.Bool.{le-leb, lt-leb, or_cases, or_left, or_right}
use Rattle.opa_date.specs.declared.TheConstants.{DAYS}
use Rattle.opa_line.specs.Lines.{at, value_from, value_or, Follows, IsLine, StandsFor}
use Rattle.opa_report.specs.DaySets.Sets.{on, Has}

-- what a set stands for, at a day
pub on_is : (f : ℕ → Bool) (l : List (ℕ × Bool)) (d : ℕ) → StandsFor DAYS f l → d < DAYS → on l d ≡ f d
on_is f l d h lt = ap (value_or false) (h d lt)

module _ {X : Type 0} where
  -- before its first day a line has the value before
  pub early : (end d : ℕ) (v : X) (l : List (ℕ × X)) (e : ℕ) → Follows end d v l → e ≤ d → value_from v l e ≡ v
  early end d v [] e h le = refl
  early end d v (p ∷ l) e h le = let lt : e < p.0 = omega (arith, h.0) in ap (λ b. cond b (value_from p.1 l e) v) (lt-leb p.0 e lt)

  -- a value at a day is the value before, or a pair's
  pub some_pair : (P : X → Bool) (v : X) (l : List (ℕ × X)) (d : ℕ) → P (value_from v l d) ≡ true → (P v ≡ true) ⊎ (list_any (λ p. P p.1) l ≡ true)
  some_pair P v [] d h = inl h
  some_pair P v (p ∷ l) d h = go (nat_le p.0 d) h (some_pair P p.1 l d)
    where
      go : (b : Bool) → P (cond b (value_from p.1 l d) v) ≡ true → (P (value_from p.1 l d) ≡ true → (P p.1 ≡ true) ⊎ (list_any (λ p. P p.1) l ≡ true)) → (P v ≡ true) ⊎ ((P p.1 || list_any (λ p. P p.1) l) ≡ true)
      go false k rest = inl k
      go true k rest = at (rest k)
        where
          at : (P p.1 ≡ true) ⊎ (list_any (λ p. P p.1) l ≡ true) → (P v ≡ true) ⊎ ((P p.1 || list_any (λ p. P p.1) l) ≡ true)
          at (inl here) = inr (or_left (P p.1) _ here)
          at (inr there) = inr (or_right (P p.1) _ there)

  -- a pair's value is the value of a day
  pub record HasDay (end : ℕ) (P : X → Bool) (f : ℕ → X) : Type 0 where
    pub day : ℕ
    pub within : day < end
    pub is : P (f day) ≡ true

  pub pair_day : (P : X → Bool) (end d : ℕ) (v : X) (l : List (ℕ × X)) → Follows end d v l → list_any (λ p. P p.1) l ≡ true → (e : ℕ) × ((d < e) × (e < end) × (P (value_from v l e) ≡ true))
  pair_day P end d v [] h e = absurd (cc e)
  pair_day P end d v (p ∷ l) h e = go (or_cases (P p.1) _ e) (pair_day P end p.0 p.1 l h.3)
    where
      go : (P p.1 ≡ true) ⊎ (list_any (λ p. P p.1) l ≡ true) → (list_any (λ p. P p.1) l ≡ true → (e : ℕ) × ((p.0 < e) × (e < end) × (P (value_from p.1 l e) ≡ true)))
          → (e : ℕ) × ((d < e) × (e < end) × (P (value_from v (p ∷ l) e) ≡ true))
      go (inl here) rest = (p.0, (h.0, h.1, ap P (ap (λ b. cond b (value_from p.1 l p.0) v) (le-leb p.0 p.0 (omega arith)) ∙ early end p.0 p.1 l p.0 h.3 (omega arith)) ∙ here))
      go (inr there) rest = let r = rest there in (r.0, (omega (arith, h.0, r.1.0), r.1.1, ap P (ap (λ b. cond b (value_from p.1 l r.0) v) (le-leb p.0 r.0 (omega (arith, r.1.0)))) ∙ r.1.2))

  -- a pair of a line passes exactly where a day does
  pub record PassesAt (P : X → Bool) (l : List (ℕ × X)) : Type 0 where
    pub day : ℕ
    pub within : day < DAYS
    pub value : X
    pub is : at l day ≡ Some value
    pub passes : P value ≡ true

  pub one_passes : (P : X → Bool) (l : List (ℕ × X)) → IsLine DAYS l → list_any (λ p. P p.1) l ≡ true → PassesAt P l
  one_passes P [] h e = absurd h
  one_passes P (p ∷ l) h e = go (or_cases (P p.1) _ e)
    where
      go : (P p.1 ≡ true) ⊎ (list_any (λ p. P p.1) l ≡ true) → PassesAt P (p ∷ l)
      go (inl here) = record { day = 0; within = omega arith; value = p.1; is = ap Some (early DAYS 0 p.1 l 0 h.1 (omega arith)); passes = here }
      go (inr there) = let r = pair_day P DAYS 0 p.1 l h.1 there in record { day = r.0; within = r.1.1; value = value_from p.1 l r.0; is = refl; passes = r.1.2 }

  pub passes_one : (P : X → Bool) (l : List (ℕ × X)) (d : ℕ) (v : X) → at l d ≡ Some v → P v ≡ true → list_any (λ p. P p.1) l ≡ true
  passes_one P [] d v e h = absurd (cc e)
  passes_one P (p ∷ l) d v e h = go (some_pair P p.1 l d (ap P (same e) ∙ h))
    where
      same : {a b : X} → Some a ≡ Some b → a ≡ b
      same e = cc e

      go : (P p.1 ≡ true) ⊎ (list_any (λ p. P p.1) l ≡ true) → list_any (λ p. P p.1) (p ∷ l) ≡ true
      go (inl here) = or_left (P p.1) _ here
      go (inr there) = or_right (P p.1) _ there

-- the answer whether one pair of a set is on
pub has_by_pairs : (l : List (ℕ × Bool)) (b : Bool) → IsLine DAYS l → b ≡ list_any (λ p. p.1) l → Has b (on l)
has_by_pairs l true h e = let r = one_passes (λ (x : Bool). x) l h (sym e) in record { day = r.day; within = r.within; is = ap (value_or false) r.is ∙ r.passes }
has_by_pairs l false h e = λ d lt. go d (at l d) refl
  where
    go : (d : ℕ) (o : Option Bool) → at l d ≡ o → value_or false o ≡ false
    go d None q = refl
    go d (Some false) q = refl
    go d (Some true) q = absurd (cc (e, passes_one (λ (x : Bool). x) l d true q refl))
