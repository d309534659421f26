-- A line that grows.
use Rattle.std.proofs.Common.{◌≡◌, ℕ, zero, suc, ◌<◌, ◌≤◌, List, [], ◌∷◌, Some, refl, sym, ◌∙◌, ap, subst, arith}
use Rattle.opa_line.specs.Lines.{at, IsLine}
use Rattle.opa_line.specs.Pointwise.{EachDay}
use Rattle.opa_line.specs.Growth.{IsUpTo, Entered, Grown}
use Rattle.opa_line.proofs.ByDays.{stretch, one_more, first_day}

module _ {X : Type 0} where
  line_up_to : (k : ℕ) (l : List (ℕ × X)) → 0 < k → IsUpTo k l → IsLine k l
  line_up_to zero l lt h = absurd (omega arith)
  line_up_to (suc k) l lt h = h

  up_to_line : (k : ℕ) (l : List (ℕ × X)) → 0 < k → IsLine k l → IsUpTo k l
  up_to_line zero l lt h = absurd (omega arith)
  up_to_line (suc k) l lt h = h

  -- a line has a value at each day
  has_value : (P : ℕ → X → Type 0) (l : List (ℕ × X)) (d : ℕ) (n : ℕ) → IsLine n l → ((v : X) → at l d ≡ Some v → P d v) → (v : X) × P d v × (at l d ≡ Some v)
  has_value P [] d n h p = absurd h
  has_value P (q ∷ l) d n h p = (_, p _ refl, refl)

  -- the days below k are as they were, and the value holds from k on
  abbrev Is : List (ℕ × X) → ℕ → X → ℕ → X → Type 0
  Is l k v d w = (d < k → at l d ≡ Some w) × (k ≤ d → w ≡ v)

  told : (l m : List (ℕ × X)) (k n : ℕ) (v : X) → EachDay (Is l k v) n m → (d : ℕ) → d < n → k ≤ d → at m d ≡ Some v
  told l m k n v each d lt le = let e = each d lt in e.2 ∙ ap Some (e.1.1 le)

  kept : (l m : List (ℕ × X)) (k n : ℕ) (v : X) → EachDay (Is l k v) n m → (d : ℕ) → d < n → d < k → at m d ≡ at l d
  kept l m k n v each d lt below = let e = each d lt in e.2 ∙ sym (e.1.0 below)

  pub entered : (k n : ℕ) (l m : List (ℕ × X)) (v : X) → IsUpTo k l → k < n → Entered l k v m → IsUpTo n m × ((d : ℕ) → d < k → at m d ≡ at l d) × ((d : ℕ) → k ≤ d → d < n → at m d ≡ Some v)
  entered zero n [] m v form lt is =
      let first = first_day (Is [] 0 v) v ((λ below. absurd (omega arith)), (λ _. refl)) in
      let all = stretch (Is [] 0 v) 0 n ((0, v) ∷ []) first.0 first.1 lt (λ d z more below p. ((λ h. absurd (omega arith)), λ _. p.1 (omega arith))) in
      (up_to_line n m lt (subst (IsLine n) (sym is) all.0), (λ d below. absurd (omega arith)), (λ d le below. ap (λ xs. at xs d) is ∙ told [] ((0, v) ∷ []) 0 n v all.1 d below le))
  entered zero n (p ∷ l) m v form lt is = cc form
  entered (suc k) n [] m v form lt is = absurd form
  entered (suc k) n (p ∷ l) m v form lt is =
      let one = one_more (Is (p ∷ l) (suc k) v) (suc k) (p ∷ l) m v form (λ d below. has_value (Is (p ∷ l) (suc k) v) (p ∷ l) d (suc k) form (λ w e. ((λ _. e), λ le. absurd (omega arith)))) (omega arith) ((λ below. absurd (omega arith)), (λ _. refl)) is in
      let all = stretch (Is (p ∷ l) (suc k) v) (suc k) n m one.0 one.1 lt (λ d z more below p. ((λ h. absurd (omega arith)), λ _. p.1 (omega arith))) in
      (up_to_line n m (omega arith) all.0, (λ d below. kept (p ∷ l) m (suc k) n v all.1 d (omega arith) below), (λ d le below. told (p ∷ l) m (suc k) n v all.1 d below le))

  pub grown : (k n : ℕ) (l m : List (ℕ × X)) (v : X) → IsUpTo k l → k < n → Entered l k v m → IsUpTo n m × Grown (k, l) n v (n, m)
  grown k n l m v form lt is = let e = entered k n l m v form lt is in
      (e.0, record { upto = ((λ _. refl), λ le. absurd (omega arith)); before = e.1; from = e.2 })
