-- A property that holds of each day's value, one stretch of days more.
use Rattle.std.proofs.Common.{◌≡◌, ◌⊎◌, inl, inr, ℕ, ◌+◌, ◌<◌, List, [], ◌∷◌, Some, refl, sym, ◌∙◌, ap, subst, arith}
use Rattle.std.proofs.lemmas.Bool.{cases_order}
use Rattle.opa_line.specs.Lines.{at, Follows, IsLine}
use Rattle.opa_line.specs.Growth.{Added}
use Rattle.opa_line.specs.Pointwise.{EachDay}
use Rattle.opa_line.proofs.MoreDays.{at_last, line_push, at_push, at_pushed, line_more, waits}

module _ {X : Type 0} where
  -- a line with the property on each day up to k has it up to m, where the property stays
  pub stretch : (P : ℕ → X → Type 0) (k m : ℕ) (l : List (ℕ × X)) → IsLine (k + 1) l → EachDay P (k + 1) l → k < m → ((d : ℕ) (z : X) → k < d → d < m → P k z → P d z) → IsLine m l × EachDay P m l
  stretch P k m l form values lt keeps = (longer l form, λ d below. by_day d below (cases_order k d))
    where
      follows_longer : (d : ℕ) (v : X) (l : List (ℕ × X)) → Follows (k + 1) d v l → Follows m d v l
      follows_longer d v [] h = tt
      follows_longer d v (p ∷ l) h = (h.0, omega (arith, h.1), h.2, follows_longer p.0 p.1 l h.3)

      longer : (l : List (ℕ × X)) → IsLine (k + 1) l → IsLine m l
      longer [] h = h
      longer (p ∷ l) h = (h.0, follows_longer 0 p.1 l h.1)

      by_day : (d : ℕ) → d < m → (k ≡ d) ⊎ ((k < d) ⊎ (d < k)) → (z : X) × P d z × (at l d ≡ Some z)
      by_day d below (inl is) = values d (omega arith)
      by_day d below (inr (inl more)) = let v = values k (omega arith) in
          (v.0, keeps d v.0 more below v.1, at_last (k + 1) l v.0 d form (omega arith) ∙ sym (at_last (k + 1) l v.0 k form (omega arith)) ∙ v.2)
      by_day d below (inr (inr less)) = values d (omega arith)

  -- one more day, whose value is added
  pub one_more : (P : ℕ → X → Type 0) (k : ℕ) (l m : List (ℕ × X)) (z : X) → IsLine k l → EachDay P k l → 0 < k → P k z → Added l k z m → IsLine (k + 1) m × EachDay P (k + 1) m
  one_more P k l m z form values pos p (inl same) = (subst (IsLine (k + 1)) (sym same.1) (line_more k l form), λ d lt. by_day d lt (cases_order d k))
    where
      by_day : (d : ℕ) → d < k + 1 → (d ≡ k) ⊎ ((d < k) ⊎ (k < d)) → (w : X) × P d w × (at m d ≡ Some w)
      by_day d lt (inl e) = (z, subst (λ n. P n z) (sym e) p, ap (λ n. at m n) e ∙ ap (λ xs. at xs k) same.1 ∙ waits k l z form same.0)
      by_day d lt (inr (inl less)) = let v = values d less in (v.0, v.1, ap (λ xs. at xs d) same.1 ∙ v.2)
      by_day d lt (inr (inr more)) = absurd (omega arith)
  one_more P k l m z form values pos p (inr new) = (subst (IsLine (k + 1)) (sym new.1) (line_push k l z z form pos new.0), λ d lt. by_day d lt (cases_order d k))
    where
      by_day : (d : ℕ) → d < k + 1 → (d ≡ k) ⊎ ((d < k) ⊎ (k < d)) → (w : X) × P d w × (at m d ≡ Some w)
      by_day d lt (inl e) = (z, subst (λ n. P n z) (sym e) p, ap (λ n. at m n) e ∙ ap (λ xs. at xs k) new.1 ∙ at_pushed k l z form)
      by_day d lt (inr (inl less)) = let v = values d less in (v.0, v.1, ap (λ xs. at xs d) new.1 ∙ at_push k l z d form less ∙ v.2)
      by_day d lt (inr (inr more)) = absurd (omega arith)

  -- the first day
  pub first_day : (P : ℕ → X → Type 0) (z : X) → P 0 z → IsLine 1 ((0, z) ∷ []) × EachDay P 1 ((0, z) ∷ [])
  first_day P z p = ((refl, tt), λ d lt. let e : d ≡ 0 = omega arith in (z, subst (λ n. P n z) (sym e) p, refl))
