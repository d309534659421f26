-- A line that is made stretch by stretch of another: at each day a function of the other's value there.
use Rattle.std.proofs.Common.{◌≡◌, ◌⊎◌, inl, inr, ℕ, ◌-◌, ◌<◌, ◌≤◌, cond, List, [], ◌∷◌, Some, length, refl, sym, ◌∙◌, ap, subst, arith}
use Rattle.std.specs.Prelude.{slice_index_or, take, drop}
use Rattle.std.proofs.lemmas.Grind.{common_steps}
use Rattle.std.proofs.lemmas.Bool.{cases_lt, cases_order, le-leb, lt-leb}
use Rattle.opa_date.specs.declared.TheConstants.{DAYS}
use Rattle.opa_line.specs.Lines.{value_from, at, value_or, Follows, IsLine}
use Rattle.opa_line.specs.Growth.{Grown}
use Rattle.opa_window.specs.Stretches.{Reaches, start_of}

module _ {X : Type 0} where
  abbrev pub after : List (ℕ × X) → List (ℕ × X)
  after rest = take (length rest - 1) (drop 1 rest)

  pub after_is : (p : ℕ × X) (l : List (ℕ × X)) → after (p ∷ l) ≡ l
  after_is p l = grind (arith, common_steps)

  -- before the rest's next pair the value stays
  pub stays : (v : X) (l : List (ℕ × X)) (d : ℕ) → d < start_of l → value_from v l d ≡ v
  stays v [] d lt = refl
  stays v (q ∷ l) d lt = ap (λ b. cond b (value_from q.1 l d) v) (lt-leb q.0 d lt)

  pub starts : (k : ℕ) (v : X) (l : List (ℕ × X)) → k < DAYS → Follows DAYS k v l → (k < start_of l) × (start_of l ≤ DAYS)
  starts k v [] lt h = (lt, omega arith)
  starts k v (q ∷ l) lt h = (h.0, omega (arith, h.1))

  -- the line xs from the rest's first day on
  abbrev pub Ahead : List (ℕ × X) → List (ℕ × X) → Type 0
  Ahead xs [] = Unit {0}
  Ahead xs (p ∷ l) = Follows DAYS p.0 p.1 l × (p.0 < DAYS) × ((d : ℕ) → p.0 ≤ d → at xs d ≡ Some (value_from p.1 l d))

  pub ahead_start : (xs rest : List (ℕ × X)) → IsLine DAYS xs → rest ≡ xs → Ahead xs rest × (start_of rest ≡ 0)
  ahead_start xs [] form is = absurd (subst (IsLine DAYS) (sym is) form)
  ahead_start xs (p ∷ l) form is =
      let h : IsLine DAYS (p ∷ l) = subst (IsLine DAYS) (sym is) form in
      let z : p.0 ≡ 0 = h.0 in
      ((subst (λ k. Follows DAYS k p.1 l) (sym z) h.1, omega (arith, z), λ d le. ap (λ ys. at ys d) (sym is)), z)

  pub next_ahead : (xs : List (ℕ × X)) (p : ℕ × X) (l : List (ℕ × X)) → Ahead xs (p ∷ l) → Ahead xs l
  next_ahead xs p [] h = tt
  next_ahead xs p (q ∷ l) h = (h.0.3, h.0.1, λ d le. h.2 d (omega (arith, h.0.0)) ∙ ap (λ b. Some (cond b (value_from q.1 l d) p.1)) (le-leb q.0 d le))

  -- the value on the days of the stretch
  pub on_stretch : (xs : List (ℕ × X)) (p : ℕ × X) (l : List (ℕ × X)) → Ahead xs (p ∷ l) → (d : ℕ) → p.0 ≤ d → d < start_of l → at xs d ≡ Some p.1
  on_stretch xs p l h d le lt = h.2 d le ∙ ap Some (stays p.1 l d lt)

module _ {X Z : Type 0} (op : X → ℕ → Z) (x : X) (xs : List (ℕ × X)) where
  -- up to the first day of the rest all is done
  pub record Stretching (rest : List (ℕ × X)) (out : ℕ × List (ℕ × Z)) : Type 0 where
    pub upto : out.0 ≡ start_of rest
    pub ahead : Ahead xs rest
    pub done : (d : ℕ) → d < start_of rest → at out.1 d ≡ Some (op (value_or x (at xs d)) d)

  pub stretching_start : (rest : List (ℕ × X)) (out : ℕ × List (ℕ × Z)) → IsLine DAYS xs → rest ≡ xs → out ≡ (0, []) → Stretching rest out
  stretching_start rest out form is begun =
      let a = ahead_start xs rest form is in
      record { upto = ap (λ o. o.0) begun ∙ sym a.1; ahead = a.0; done = λ d lt. absurd (omega (arith, a.1)) }

  one_stretch : (p : ℕ × X) (l : List (ℕ × X)) (out new : ℕ × List (ℕ × Z)) → Stretching (p ∷ l) out → Reaches out (start_of l) (op p.1) new → Stretching l new
  one_stretch p l out new s reaches = record { upto = reaches.upto; ahead = next_ahead xs p l s.ahead; done = λ d lt. by_day d lt (cases_order d p.0) }
    where
      told : (d : ℕ) → p.0 ≤ d → d < start_of l → at new.1 d ≡ Some (op (value_or x (at xs d)) d)
      told d le lt = reaches.from d (omega (arith, s.upto)) lt ∙ ap (λ v. Some (op (value_or x v) d)) (sym (on_stretch xs p l s.ahead d le lt))

      by_day : (d : ℕ) → d < start_of l → (d ≡ p.0) ⊎ ((d < p.0) ⊎ (p.0 < d)) → at new.1 d ≡ Some (op (value_or x (at xs d)) d)
      by_day d lt (inr (inl less)) = reaches.before d (omega (arith, s.upto)) ∙ s.done d less
      by_day d lt (inl same) = told d (omega arith) lt
      by_day d lt (inr (inr more)) = told d (omega arith) lt

  pub stretching_next : (rest : List (ℕ × X)) (q : ℕ × X) (to : ℕ) (out new : ℕ × List (ℕ × Z)) → 1 ≤ length rest → q ≡ slice_index_or rest 0 q → Stretching rest out
      → to ≡ start_of (after rest) → Reaches out to (op q.1) new → Stretching (after rest) new
  stretching_next [] q to out new some is s days reaches = absurd (omega arith)
  stretching_next (p ∷ l) q to out new some is s days reaches =
      let t : to ≡ start_of l = days ∙ ap start_of (after_is p l) in
      subst (λ r. Stretching r new) (sym (after_is p l)) (one_stretch p l out new s (subst (λ k. Reaches out k (op p.1) new) t (subst (λ (r : ℕ × X). Reaches out to (op r.1) new) is reaches)))

  pub stretch_order : (rest : List (ℕ × X)) (out : ℕ × List (ℕ × Z)) → 1 ≤ length rest → Stretching rest out → (out.0 < start_of (after rest)) × (start_of (after rest) ≤ DAYS)
  stretch_order [] out some s = absurd (omega arith)
  stretch_order (p ∷ l) out some s =
      let o = starts p.0 p.1 l s.ahead.1 s.ahead.0 in
      subst (λ r. (out.0 < start_of r) × (start_of r ≤ DAYS)) (sym (after_is p l)) (omega (arith, o.0, s.upto), o.1)

module _ {Z : Type 0} (f : ℕ → Z) where
  -- one value up to a day
  pub one_part : (old new : ℕ × List (ℕ × Z)) (to : ℕ) (v : Z) → old.0 ≤ to → ((d : ℕ) → old.0 ≤ d → d < to → f d ≡ v) → Grown old to v new → Reaches old to f new
  one_part old new to v le is grown = record { upto = grown.upto.0 le; before = grown.before; from = λ d h lt. grown.from d h lt ∙ ap Some (sym (is d h lt)) }

  -- one more part
  pub more_parts : (old mid new : ℕ × List (ℕ × Z)) (k to : ℕ) → old.0 ≤ k → Reaches old k f mid → Reaches mid to f new → Reaches old to f new
  more_parts old mid new k to le a b = record {
    upto = b.upto;
    before = λ d lt. b.before d (omega (arith, a.upto)) ∙ a.before d lt;
    from = λ d h lt. elim (cases_lt d k) [
      | inl early ↦ b.before d (omega (arith, a.upto)) ∙ a.from d h early
      | inr late ↦ b.from d (omega (arith, a.upto)) lt
    ];
  }

  -- one value up to a day, and another from it on
  pub two_parts : (old mid new : ℕ × List (ℕ × Z)) (k to : ℕ) (v w : Z) → k ≤ to → old.0 ≤ to → ((d : ℕ) → d < k → f d ≡ v) → ((d : ℕ) → k ≤ d → d < to → f d ≡ w)
      → Grown old k v mid → Grown mid to w new → Reaches old to f new
  two_parts old mid new k to v w in_time le first last a b = elim (cases_lt k old.0) [
    | inl early ↦
        let same : mid ≡ old = a.upto.1 (omega arith) in
        one_part old new to w le (λ d h lt. last d (omega arith) lt) (subst (λ m. Grown m to w new) same b)
    | inr late ↦
        let up : mid.0 ≡ k = a.upto.0 late in
        more_parts old mid new k to late (one_part old mid k v late (λ d h lt. first d lt) a)
        (one_part mid new to w (omega (arith, up, in_time)) (λ d h lt. last d (omega (arith, up)) lt) b)
  ]
