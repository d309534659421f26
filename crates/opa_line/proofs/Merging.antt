-- Pairs without a fault, merged to a line.
use Rattle.std.proofs.Common.{◌≡◌, inl, inr, ℕ, ◌<◌, ◌≤◌, ◌==◌, Bool, true, false, cond, List, [], ◌∷◌, None, Some, length, refl, sym, ◌∙◌, ap, subst, arith}
use Rattle.std.specs.Prelude.{nat_lt}
use Rattle.std.proofs.lemmas.Bool.{ltb-true, lt-leb, le-leb, eqb-true, cases_lt}
use Rattle.opa_date.specs.declared.TheConstants.{DAYS}
use Rattle.opa_line.specs.declared.pairs.LineFault.TheVariants.{FirstDay, Order, Range}
use Rattle.opa_line.specs.Lines.{value_from, at}
use Rattle.opa_line.specs.Growth.{Grown}
use Rattle.opa_line.specs.Pairs.{rises_from, all_below, fault_of}

both : (b c : Bool) → cond b c false ≡ true → (b ≡ true) × (c ≡ true)
both true c e = (refl, e)
both false c e = cc e

module _ {X : Type 0} where
  -- the line is right up to where it goes, and from there on v and the rest decide
  pub record Merging (end : ℕ) (xs : List (ℕ × X)) (v : X) (rest : List (ℕ × X)) (out : ℕ × List (ℕ × X)) : Type 0 where
    pub day : out.0 < end
    pub done : (d : ℕ) → d < out.0 → at out.1 d ≡ at xs d
    pub ahead : (d : ℕ) → out.0 ≤ d → at xs d ≡ Some (value_from v rest d)
    pub rises : rises_from out.0 rest ≡ true
    pub below : all_below end rest ≡ true

  rises_more : (k : ℕ) (p : ℕ × X) (l : List (ℕ × X)) → rises_from k (p ∷ l) ≡ true → (k < p.0) × (rises_from p.0 l ≡ true)
  rises_more k p l e = let h = both (nat_lt k p.0) (rises_from p.0 l) e in (ltb-true _ _ h.0, h.1)

  below_more : (end : ℕ) (p : ℕ × X) (l : List (ℕ × X)) → all_below end (p ∷ l) ≡ true → (p.0 < end) × (all_below end l ≡ true)
  below_more end p l e = let h = both (nat_lt p.0 end) (all_below end l) e in (ltb-true _ _ h.0, h.1)

  no_fault : (p : ℕ × X) (l : List (ℕ × X)) → fault_of (p ∷ l) ≡ None → (p.0 ≡ 0) × (rises_from p.0 l ≡ true) × (all_below DAYS (p ∷ l) ≡ true)
  no_fault p l is = by_case (p.0 == 0) (rises_from p.0 l) (all_below DAYS (p ∷ l)) refl refl refl is
    where
      by_case : (a b c : Bool) → (p.0 == 0) ≡ a → rises_from p.0 l ≡ b → all_below DAYS (p ∷ l) ≡ c
          → cond a (cond b (cond c None (Some Range)) (Some Order)) (Some FirstDay) ≡ None → (p.0 ≡ 0) × (rises_from p.0 l ≡ true) × (all_below DAYS (p ∷ l) ≡ true)
      by_case true true true e f g is = (eqb-true _ _ e, f, g)
      by_case true true false e f g is = cc is
      by_case true false c e f g is = cc is
      by_case false b c e f g is = cc is

  -- no fault: there is a first pair
  pub has_first : (xs : List (ℕ × X)) → fault_of xs ≡ None → xs ≡ [] → ⊥
  has_first [] is e = cc is
  has_first (p ∷ l) is e = cc e

  pub merging_start : (xs : List (ℕ × X)) (k : ℕ) (v : X) (rest : List (ℕ × X)) (out : ℕ × List (ℕ × X)) → fault_of xs ≡ None → xs ≡ (k, v) ∷ rest → out ≡ (0, []) → Merging DAYS xs v rest out
  merging_start xs k v rest out none is new =
      let h = no_fault (k, v) rest (ap fault_of (sym is) ∙ none) in
      let start : Merging DAYS ((k, v) ∷ rest) v rest (0, []) = record {
        day = omega arith;
        done = λ d lt. absurd (omega arith);
        ahead = λ d le. refl;
        rises = ap (λ n. rises_from n rest) (sym h.0) ∙ h.1;
        below = (below_more DAYS (k, v) rest h.2).1;
      } in
      subst (Merging DAYS xs v rest) (sym new) (subst (λ ys. Merging DAYS ys v rest (0, [])) (sym is) start)

  -- up to the day n the value stays
  grown_values : (end : ℕ) (xs : List (ℕ × X)) (v : X) (rest : List (ℕ × X)) (out new : ℕ × List (ℕ × X)) (n : ℕ) → Merging end xs v rest out
      → ((d : ℕ) → d < n → value_from v rest d ≡ v) → Grown out n v new → (d : ℕ) → d < n → at new.1 d ≡ at xs d
  grown_values end xs v rest out new n m stays grown d lt = elim (cases_lt d out.0) [
    | inl early ↦ grown.before d early ∙ m.done d early
    | inr late ↦ grown.from d late lt ∙ ap Some (sym (stays d lt)) ∙ sym (m.ahead d late)
  ]

  pub merging_next : (end : ℕ) (xs : List (ℕ × X)) (v : X) (day : ℕ) (w : X) (rest : List (ℕ × X)) (out new : ℕ × List (ℕ × X))
      → Merging end xs v ((day, w) ∷ rest) out → Grown out day v new → Merging end xs w rest new
  merging_next end xs v day w rest out new m grown =
      let r = rises_more out.0 (day, w) rest m.rises in
      let b = below_more end (day, w) rest m.below in
      let upto : day ≡ new.0 = sym (grown.upto.0 (omega (arith, r.0))) in
      record {
        day = subst (λ k. k < end) upto b.0;
        done = λ d lt. grown_values end xs v ((day, w) ∷ rest) out new day m (λ e early. ap (λ c. cond c (value_from w rest e) v) (lt-leb day e early)) grown d (omega (arith, lt, upto));
        ahead = λ d le. let late : day ≤ d = omega (arith, le, upto) in m.ahead d (omega (arith, late, r.0)) ∙ ap (λ c. Some (cond c (value_from w rest d) v)) (le-leb day d late);
        rises = ap (λ k. rises_from k rest) (sym upto) ∙ r.1;
        below = b.1;
      }

  pub merging_day : (end : ℕ) (xs : List (ℕ × X)) (v : X) (day : ℕ) (w : X) (rest : List (ℕ × X)) (out : ℕ × List (ℕ × X)) → Merging end xs v ((day, w) ∷ rest) out → day < end
  merging_day end xs v day w rest out m = (below_more end (day, w) rest m.below).0

  pub merging_end : (end : ℕ) (xs : List (ℕ × X)) (v : X) (rest : List (ℕ × X)) (out new : ℕ × List (ℕ × X)) → Merging end xs v rest out → rest ≡ [] → Grown out end v new
      → (new.0 ≡ end) × ((d : ℕ) → d < end → at new.1 d ≡ at xs d)
  merging_end end xs v rest out new m is grown = (
    grown.upto.0 (omega (arith, m.day)),
    grown_values end xs v rest out new end m (λ d lt. ap (λ l. value_from v l d) is) grown,
  )

  pub none_left : (l : List (ℕ × X)) → length l ≡ 0 → l ≡ []
  none_left [] is = refl
  none_left (p ∷ l) is = absurd (omega (arith, is))
