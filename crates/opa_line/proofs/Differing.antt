-- Two lines walked side by side until they differ.
use Rattle.std.proofs.Common.{◌≡◌, ◌⊎◌, inl, inr, ℕ, ◌-◌, ◌<◌, ◌≤◌, List, None, Some, length, sym, ◌∙◌, ap, subst, arith}
use Rattle.std.specs.Prelude.{slice_index_or, take, drop}
use Rattle.std.proofs.lemmas.Bool.{cases_order}
use Rattle.opa_line.specs.Lines.{at, IsLine}
use Rattle.opa_line.specs.Walks.{next_of, reached_value, reached_rest, earlier}
use Rattle.opa_line.specs.Differences.{IsFirstDifference}
use Rattle.opa_line.proofs.Tracking.{Tracks, begins, first_at, now, next_day, tracks_reached, tracks_still, before_earlier, IsBefore}
use Rattle.opa_line.proofs.OneLine.{same_line}

module _ {X : Type 0} (end : ℕ) (xs ys : List (ℕ × X)) where
  pub record Equal (k : ℕ) (x y : X) (l m : List (ℕ × X)) : Type 0 where
    pub day : k < end
    pub left : Tracks end xs k x l
    pub right : Tracks end ys k y m
    pub here : x ≡ y
    pub same : (d : ℕ) → d ≤ k → at xs d ≡ at ys d

  pub equal_start : (x y : ℕ × X) → IsLine end xs → IsLine end ys → 0 < end → (slice_index_or xs 0 x).1 ≡ (slice_index_or ys 0 y).1 → Equal 0 (slice_index_or xs 0 x).1 (slice_index_or ys 0 y).1 (take (length xs - 1) (drop 1 xs)) (take (length ys - 1) (drop 1 ys))
  equal_start x y hx hy pos is = record { day = pos; left = begins end xs x hx; right = begins end ys y hy; here = is; same = λ d le. let z : d ≡ 0 = omega arith in ap (at xs) z ∙ first_at end xs x hx ∙ ap Some is ∙ sym (first_at end ys y hy) ∙ ap (at ys) (sym z) }

  -- equal up to the next day
  until : (k : ℕ) (x y : X) (l m : List (ℕ × X)) → Equal k x y l m → (d : ℕ) → IsBefore d (earlier (next_of l) (next_of m)) → at xs d ≡ at ys d
  until k x y l m e d before = go (cases_order d k)
    where
      go : (d ≡ k) ⊎ ((d < k) ⊎ (k < d)) → at xs d ≡ at ys d
      go (inl is) = e.same d (omega arith)
      go (inr (inl less)) = e.same d (omega arith)
      go (inr (inr more)) = let b = before_earlier (next_of l) (next_of m) d before in tracks_still end xs k x l e.left d (omega arith) b.0 ∙ ap Some e.here ∙ sym (tracks_still end ys k y m e.right d (omega arith) b.1)

  pub equal_next : (k day : ℕ) (x y : X) (l m : List (ℕ × X)) → Equal k x y l m → earlier (next_of l) (next_of m) ≡ Some day → reached_value day x l ≡ reached_value day y m → Equal day (reached_value day x l) (reached_value day y m) (reached_rest day l) (reached_rest day m)
  equal_next k day x y l m e is equal =
      let n = next_day end k x l y m day e.left.follows e.right.follows is in
      let a = tracks_reached end xs k x l day e.left n.0 n.2 in
      let b = tracks_reached end ys k y m day e.right n.0 n.3 in
      record { day = n.1; left = a; right = b; here = equal; same = λ d le. by d le (cases_order d day) (now end xs day (reached_value day x l) (reached_rest day l) a) (now end ys day (reached_value day y m) (reached_rest day m) b) (λ lt. until k x y l m e d (subst (IsBefore d) (sym is) lt)) }
    where
      by : (d : ℕ) → d ≤ day → (d ≡ day) ⊎ ((d < day) ⊎ (day < d)) → at xs day ≡ Some (reached_value day x l) → at ys day ≡ Some (reached_value day y m) → (d < day → at xs d ≡ at ys d) → at xs d ≡ at ys d
      by d le (inl same) ax ay rest = ap (at xs) same ∙ ax ∙ ap Some equal ∙ sym ay ∙ ap (at ys) (sym same)
      by d le (inr (inl less)) ax ay rest = rest less
      by d le (inr (inr more)) ax ay rest = absurd (omega arith)

  pub differs : (k day : ℕ) (x y : X) (l m : List (ℕ × X)) → Equal k x y l m → earlier (next_of l) (next_of m) ≡ Some day → (reached_value day x l ≡ reached_value day y m → ⊥) → IsFirstDifference end xs ys (Some day)
  differs k day x y l m e is other =
      let n = next_day end k x l y m day e.left.follows e.right.follows is in
      let a = now end xs day (reached_value day x l) (reached_rest day l) (tracks_reached end xs k x l day e.left n.0 n.2) in
      let b = now end ys day (reached_value day y m) (reached_rest day m) (tracks_reached end ys k y m day e.right n.0 n.3) in
      (n.1, (λ same. other (some_same (sym a ∙ same ∙ b))), λ d lt. until k x y l m e d (subst (IsBefore d) (sym is) lt))
    where
      some_same : {u v : X} → Some u ≡ Some v → u ≡ v
      some_same e = cc e

  pub differs_first : (x y : ℕ × X) → IsLine end xs → IsLine end ys → 0 < end → ((slice_index_or xs 0 x).1 ≡ (slice_index_or ys 0 y).1 → ⊥) → IsFirstDifference end xs ys (Some 0)
  differs_first x y hx hy pos other = (pos, (λ same. other (some_same (sym (first_at end xs x hx) ∙ same ∙ first_at end ys y hy))), λ d lt. absurd (omega arith))
    where
      some_same : {u v : X} → Some u ≡ Some v → u ≡ v
      some_same e = cc e

  pub never_differ : (k : ℕ) (x y : X) (l m : List (ℕ × X)) → IsLine end xs → IsLine end ys → Equal k x y l m → earlier (next_of l) (next_of m) ≡ None → xs ≡ ys
  never_differ k x y l m hx hy e is = same_line end xs ys hx hy (λ d lt. until k x y l m e d (subst (IsBefore d) (sym is) tt)) (omega (arith, e.day))
