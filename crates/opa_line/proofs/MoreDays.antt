-- One more day.
use Rattle.std.proofs.Common.{◌≡◌, ◌≢◌, ℕ, ◌+◌, ◌-◌, ◌<◌, ◌≤◌, cond, List, [], ◌∷◌, ◌++◌, Some, length, get_or, refl, sym, ◌∙◌, ap, arith}
use Rattle.std.specs.Prelude.{nat_le}
use Rattle.std.proofs.lemmas.Bool.{le-leb, lt-leb}
use Rattle.opa_line.specs.Lines.{value_from, at, Follows, IsLine}
use Rattle.opa_line.specs.Growth.{last_of, last_value}

module _ {X : Type 0} where
  after : (end d : ℕ) (v : X) (l : List (ℕ × X)) (e : ℕ) → Follows end d v l → end ≤ e + 1 → value_from v l e ≡ last_of v l
  after end d v [] e h le = refl
  after end d v (p ∷ l) e h le = ap (λ b. cond b (value_from p.1 l e) v) (le-leb p.0 e (omega (arith, h.1))) ∙ after end p.0 p.1 l e h.3 le

  pub follows_more : (end d : ℕ) (v : X) (l : List (ℕ × X)) → Follows end d v l → Follows (end + 1) d v l
  follows_more end d v [] h = tt
  follows_more end d v (p ∷ l) h = (h.0, omega (arith, h.1), h.2, follows_more end p.0 p.1 l h.3)

  follows_push : (end d : ℕ) (v w : X) (l : List (ℕ × X)) → Follows end d v l → d < end → w ≢ last_of v l → Follows (end + 1) d v (l ++ (end, w) ∷ [])
  follows_push end d v w [] h lt n = (lt, omega arith, n, tt)
  follows_push end d v w (p ∷ l) h lt n = (h.0, omega (arith, h.1), h.2, follows_push end p.0 p.1 w l h.3 h.1 n)

  value_push : (end d : ℕ) (v w : X) (l : List (ℕ × X)) (e : ℕ) → Follows end d v l → e < end → value_from v (l ++ (end, w) ∷ []) e ≡ value_from v l e
  value_push end d v w [] e h lt = ap (λ b. cond b w v) (lt-leb end e lt)
  value_push end d v w (p ∷ l) e h lt = ap (λ x. cond (nat_le p.0 e) x v) (value_push end p.0 p.1 w l e h.3 lt)

  value_pushed : (end d : ℕ) (v w : X) (l : List (ℕ × X)) → Follows end d v l → value_from v (l ++ (end, w) ∷ []) end ≡ w
  value_pushed end d v w [] h = ap (λ b. cond b w v) (le-leb end end (omega arith))
  value_pushed end d v w (p ∷ l) h = ap (λ b. cond b (value_from p.1 (l ++ (end, w) ∷ []) end) v) (le-leb p.0 end (omega (arith, h.1))) ∙ value_pushed end p.0 p.1 w l h.3

  last_get : (p : ℕ × X) (l : List (ℕ × X)) (x : ℕ × X) → (get_or (p ∷ l) (length l) x).1 ≡ last_of p.1 l
  last_get p [] x = refl
  last_get p (q ∷ l) x = last_get q l x

  -- a line so far, and what one more day does
  pub line_more : (end : ℕ) (l : List (ℕ × X)) → IsLine end l → IsLine (end + 1) l
  line_more end [] h = absurd h
  line_more end (p ∷ l) h = (h.0, follows_more end 0 p.1 l h.1)

  pub line_push : (end : ℕ) (l : List (ℕ × X)) (w x : X) → IsLine end l → 0 < end → w ≢ last_value x l → IsLine (end + 1) (l ++ (end, w) ∷ [])
  line_push end [] w x h pos n = absurd h
  line_push end (p ∷ l) w x h pos n = (h.0, follows_push end 0 p.1 w l h.1 pos n)

  pub at_push : (end : ℕ) (l : List (ℕ × X)) (w : X) (d : ℕ) → IsLine end l → d < end → at (l ++ (end, w) ∷ []) d ≡ at l d
  at_push end [] w d h lt = absurd h
  at_push end (p ∷ l) w d h lt = ap Some (value_push end 0 p.1 w l d h.1 lt)

  pub at_pushed : (end : ℕ) (l : List (ℕ × X)) (w : X) → IsLine end l → at (l ++ (end, w) ∷ []) end ≡ Some w
  at_pushed end [] w h = absurd h
  at_pushed end (p ∷ l) w h = ap Some (value_pushed end 0 p.1 w l h.1)

  pub at_last : (end : ℕ) (l : List (ℕ × X)) (x : X) (d : ℕ) → IsLine end l → end ≤ d + 1 → at l d ≡ Some (last_value x l)
  at_last end [] x d h le = absurd h
  at_last end (p ∷ l) x d h le = ap Some (after end 0 p.1 l d h.1 le)

  pub last_read : (l : List (ℕ × X)) (x : ℕ × X) → 0 < length l → (get_or l (length l - 1) x).1 ≡ last_value x.1 l
  last_read [] x pos = absurd (omega arith)
  last_read (p ∷ l) x pos = ap (λ k. (get_or (p ∷ l) k x).1) (omega arith) ∙ last_get p l x

  pub last_at : (l : List (ℕ × X)) (x : ℕ × X) (v : X) → 0 < length l → x ≡ get_or l (length l - 1) x → x.1 ≡ last_value v l
  last_at [] x v pos is = absurd (omega arith)
  last_at (p ∷ l) x v pos is = ap (λ y. y.1) is ∙ last_read (p ∷ l) x pos

  -- a day after a value that stays, or that is added
  pub waits : (end : ℕ) (l : List (ℕ × X)) (w : X) → IsLine end l → w ≡ last_value w l → at l end ≡ Some w
  waits end l w h is = at_last end l w end h (omega arith) ∙ ap Some (sym is)
