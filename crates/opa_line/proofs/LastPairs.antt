-- The last pair whose day is at most a day.
use Rattle.std.proofs.Common.{◌≡◌, ℕ, zero, suc, ◌-◌, ◌<◌, ◌≤◌, Bool, true, false, cond, List, [], ◌∷◌, Some, All, length, get_or, leb, refl, sym, ◌∙◌, ap, subst, arith}
use Rattle.std.specs.Prelude.{nat_le}
use Rattle.std.specs.List.Sorted.{IsPartitionPoint, IsNonDecreasingBy}
use Rattle.std.proofs.lemmas.Bool.{le-leb, lt-leb, leb-true, leb-false}
use Rattle.opa_line.specs.Lines.{value_from, at, Follows, IsLine, IsLastUpTo}

module _ {X : Type 0} where
  later_days : (end k : ℕ) (v : X) (l : List (ℕ × X)) (j : ℕ) (e : ℕ × X) → Follows end k v l → j < length l → k < (get_or l j e).0
  later_days end k v [] j e h lt = absurd (omega arith)
  later_days end k v (p ∷ l) zero e h lt = h.0
  later_days end k v (p ∷ l) (suc j) e h lt = let r = later_days end p.0 p.1 l j e h.3 (omega arith) in omega (arith, h.0, r)

  no_more : (d : ℕ) → All (λ (q : ℕ × X). d < q.0) []
  no_more d j e lt = absurd (omega arith)

  all_later : (end : ℕ) (p : ℕ × X) (l : List (ℕ × X)) (d : ℕ) → Follows end p.0 p.1 l → d < p.0 → All (λ (q : ℕ × X). d < q.0) (p ∷ l)
  all_later end p l d h lt zero e within = lt
  all_later end p l d h lt (suc j) e within = let r = later_days end p.0 p.1 l j e h (omega arith) in omega (arith, r, lt)

  last_from : (end k : ℕ) (v : X) (l : List (ℕ × X)) (d : ℕ) → Follows end k v l → k ≤ d → IsLastUpTo d ((k, v) ∷ l) (value_from v l d)
  last_from end k v [] d h le = record { before = []; day = k; after = []; parts = refl; reached = le; later = no_more d }
  last_from end k v (p ∷ l) d h le = by_case (nat_le p.0 d) refl (λ reached. last_from end p.0 p.1 l d h.3 reached)
    where
      by_case : (b : Bool) → nat_le p.0 d ≡ b → (p.0 ≤ d → IsLastUpTo d (p ∷ l) (value_from p.1 l d)) → IsLastUpTo d ((k, v) ∷ p ∷ l) (cond b (value_from p.1 l d) v)
      by_case true e rest =
          let r = rest (leb-true _ _ e) in
          record { before = (k, v) ∷ r.before; day = r.day; after = r.after; parts = ap (λ xs. (k, v) ∷ xs) r.parts; reached = r.reached; later = r.later }
      by_case false e rest =
          let lt : d < p.0 = leb-false _ _ e in
          record { before = []; day = k; after = p ∷ l; parts = refl; reached = le; later = all_later end p l d h.3 lt }

  pub last_pair : (end : ℕ) (l : List (ℕ × X)) → IsLine end l → (d : ℕ) → (v : X) × (at l d ≡ Some v) × IsLastUpTo d l v
  last_pair end [] h d = absurd h
  last_pair end (p ∷ l) h d = (value_from p.1 l d, refl, subst (λ k. IsLastUpTo d ((k, p.1) ∷ l) (value_from p.1 l d)) (sym h.0) (last_from end 0 p.1 l d h.1 (omega arith)))

  -- ---- by a search for the place

  days_rise : (end k : ℕ) (v : X) (l : List (ℕ × X)) (i j : ℕ) (e : ℕ × X) → Follows end k v l → i ≤ j → j < length l → (get_or l i e).0 ≤ (get_or l j e).0
  days_rise end k v [] i j e h le lt = absurd (omega arith)
  days_rise end k v (p ∷ l) zero zero e h le lt = omega arith
  days_rise end k v (p ∷ l) zero (suc j) e h le lt = let r = later_days end p.0 p.1 l j e h.3 (omega arith) in omega (arith, r)
  days_rise end k v (p ∷ l) (suc i) zero e h le lt = absurd (omega arith)
  days_rise end k v (p ∷ l) (suc i) (suc j) e h le lt = days_rise end p.0 p.1 l i j e h.3 (omega arith) (omega arith)

  pub line_rises : (end : ℕ) (l : List (ℕ × X)) → IsLine end l → IsNonDecreasingBy (λ (p : ℕ × X). p.0) l
  line_rises end [] h i j e le lt = absurd h
  line_rises end (p ∷ l) h zero zero e le lt = omega arith
  line_rises end (p ∷ l) h zero (suc j) e le lt = omega (arith, h.0)
  line_rises end (p ∷ l) h (suc i) zero e le lt = absurd (omega arith)
  line_rises end (p ∷ l) h (suc i) (suc j) e le lt = days_rise end 0 p.1 l i j e h.1 (omega arith) (omega arith)

  abbrev pub IsPlace : ℕ → List (ℕ × X) → ℕ → Type 0
  IsPlace d l n = ((k : ℕ) (e : ℕ × X) → k < n → (get_or l k e).0 ≤ d) × ((k : ℕ) (e : ℕ × X) → n ≤ k → k < length l → d < (get_or l k e).0)

  pub place_of : (l : List (ℕ × X)) (d n : ℕ) → IsPartitionPoint (λ (p : ℕ × X). leb p.0 d ≡ true) (λ (p : ℕ × X). leb p.0 d ≡ false) l n → IsPlace d l n
  place_of l d n h = ((λ k e lt. leb-true _ _ (h.0 k e (omega arith) lt)), (λ k e more lt. leb-false _ _ (h.1 k e more lt)))

  place_value : (v : X) (l : List (ℕ × X)) (d n k : ℕ) (e : ℕ × X) → n ≤ length l → IsPlace d l n → value_from v l d ≡ (get_or ((k, v) ∷ l) n e).1
  place_value v [] d zero k e le h = refl
  place_value v [] d (suc n) k e le h = absurd (omega arith)
  place_value v (p ∷ l) d zero k e le h = ap (λ b. cond b (value_from p.1 l d) v) (lt-leb p.0 d (h.1 0 p (omega arith) (omega arith)))
  place_value v (p ∷ l) d (suc n) k e le h =
      ap (λ b. cond b (value_from p.1 l d) v) (le-leb p.0 d (h.0 0 p (omega arith)))
      ∙ place_value p.1 l d n p.0 e (omega arith) ((λ i x lt. h.0 (suc i) x (omega arith)), (λ i x more lt. h.1 (suc i) x (omega arith) (omega arith)))

  -- a line's first day is reached
  pub place_some : (end : ℕ) (l : List (ℕ × X)) (d n : ℕ) → IsLine end l → IsPlace d l n → 1 ≤ n
  place_some end [] d n h place = absurd h
  place_some end (p ∷ l) d zero h place = absurd (omega (arith, h.0, place.1 0 p (omega arith) (omega arith)))
  place_some end (p ∷ l) d (suc n) h place = omega arith

  pub place_at : (end : ℕ) (l : List (ℕ × X)) (d n : ℕ) (e : ℕ × X) → IsLine end l → n ≤ length l → IsPlace d l n → at l d ≡ Some (get_or l (n - 1) e).1
  place_at end [] d n e h le place = absurd h
  place_at end (p ∷ l) d zero e h le place = absurd (omega (arith, place_some end (p ∷ l) d 0 h place))
  place_at end (p ∷ l) d (suc n) e h le place =
      let back : suc n - 1 ≡ n = omega arith in
      rw back (ap Some (place_value p.1 l d n p.0 e (omega arith) ((λ i x lt. place.0 (suc i) x (omega arith)), (λ i x more lt. place.1 (suc i) x (omega arith) (omega arith)))))
