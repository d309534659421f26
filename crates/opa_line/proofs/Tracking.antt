-- Where a walk along change points stands.
use Rattle.std.proofs.Common.{◌≡◌, ◌⊎◌, inl, inr, ℕ, ◌+◌, ◌-◌, ◌<◌, ◌≤◌, ◌==◌, Bool, true, false, cond, List, [], ◌∷◌, Option, None, Some, length, refl, sym, ◌∙◌, ap, subst, arith}
use Rattle.std.specs.Prelude.{slice_index_or, take, drop}
use Rattle.std.proofs.lemmas.Grind.{common_steps}
use Rattle.std.proofs.lemmas.Bool.{le-leb, lt-leb, cases_order}
use Rattle.opa_line.specs.Lines.{value_from, at, Follows, IsLine}
use Rattle.opa_line.specs.Walks.{next_of, reached_value, reached_rest, earlier}

-- d is before the next day, if there is one
abbrev pub IsBefore : ℕ → Option ℕ → Type 0
IsBefore d None = Unit {0}
IsBefore d (Some n) = d < n

-- the next day is not before d
abbrev pub IsNotPast : ℕ → Option ℕ → Type 0
IsNotPast d None = Unit {0}
IsNotPast d (Some n) = d ≤ n

pub before_earlier : (a b : Option ℕ) (d : ℕ) → IsBefore d (earlier a b) → IsBefore d a × IsBefore d b
before_earlier None b d h = (tt, h)
before_earlier (Some m) None d h = (h, tt)
before_earlier (Some m) (Some n) d h = grind arith

pub up_to_earlier : (a b : Option ℕ) (d : ℕ) → IsNotPast d (earlier a b) → IsNotPast d a × IsNotPast d b
up_to_earlier None b d h = (tt, h)
up_to_earlier (Some m) None d h = (h, tt)
up_to_earlier (Some m) (Some n) d h = grind arith

module _ {X : Type 0} where
  -- v is the value at day k of the line xs, and l is what comes after it
  pub record Tracks (end : ℕ) (xs : List (ℕ × X)) (k : ℕ) (v : X) (l : List (ℕ × X)) : Type 0 where
    pub follows : Follows end k v l
    pub tells : (d : ℕ) → k ≤ d → at xs d ≡ Some (value_from v l d)

  pub tracks_start : (end : ℕ) (p : ℕ × X) (l : List (ℕ × X)) → IsLine end (p ∷ l) → Tracks end (p ∷ l) 0 p.1 l
  tracks_start end p l h = record { follows = h.1; tells = λ d le. refl }

  -- until the next day the value stays
  pub stays : (end d : ℕ) (v : X) (l : List (ℕ × X)) (e : ℕ) → IsBefore e (next_of l) → value_from v l e ≡ v
  stays end d v [] e h = refl
  stays end d v (p ∷ l) e h = ap (λ b. cond b (value_from p.1 l e) v) (lt-leb p.0 e h)

  pub tracks_still : (end : ℕ) (xs : List (ℕ × X)) (k : ℕ) (v : X) (l : List (ℕ × X)) → Tracks end xs k v l → (d : ℕ) → k ≤ d → IsBefore d (next_of l) → at xs d ≡ Some v
  tracks_still end xs k v l t d le h = t.tells d le ∙ ap Some (stays end k v l d h)

  -- the next day is reached
  pub tracks_reached : (end : ℕ) (xs : List (ℕ × X)) (k : ℕ) (v : X) (l : List (ℕ × X)) (day : ℕ) → Tracks end xs k v l → k < day → IsNotPast day (next_of l) → Tracks end xs day (reached_value day v l) (reached_rest day l)
  tracks_reached end xs k v [] day t lt le = record { follows = tt; tells = λ d h. t.tells d (omega arith) }
  tracks_reached end xs k v (p ∷ l) day t lt le = go (cases_order p.0 day)
    where
      go : (p.0 ≡ day) ⊎ ((p.0 < day) ⊎ (day < p.0)) → Tracks end xs day (cond (p.0 == day) p.1 v) (cond (p.0 == day) l (p ∷ l))
      go (inl is) = let e : (p.0 == day) ≡ true = grind arith in
          rw e record { follows = subst (λ n. Follows end n p.1 l) is t.follows.3; tells = λ d h. t.tells d (omega arith) ∙ ap (λ b. Some (cond b (value_from p.1 l d) v)) (le-leb p.0 d (omega (arith, is))) }
      go (inr (inl less)) = absurd (omega arith)
      go (inr (inr more)) = let e : (p.0 == day) ≡ false = grind arith in
          rw e record { follows = (more, t.follows.1, t.follows.2, t.follows.3); tells = λ d h. t.tells d (omega arith) }

  next_follows : (end k : ℕ) (v : X) (l : List (ℕ × X)) (day : ℕ) → Follows end k v l → next_of l ≡ Some day → (k < day) × (day < end)
  next_follows end k v [] day h is = cc is
  next_follows end k v (p ∷ l) day h is = let e : p.0 ≡ day = cc is in (subst (λ n. k < n) e h.0, subst (λ n. n < end) e h.1)

-- the earlier of two next days
module _ {X Y : Type 0} where
  pub next_day : (end k : ℕ) (v : X) (l : List (ℕ × X)) (w : Y) (m : List (ℕ × Y)) (day : ℕ) → Follows end k v l → Follows end k w m → earlier (next_of l) (next_of m) ≡ Some day → (k < day) × (day < end) × IsNotPast day (next_of l) × IsNotPast day (next_of m)
  next_day end k v [] w m day h i is = let n = next_follows end k w m day i is in (n.0, n.1, tt, subst (IsNotPast day) (sym is) (omega arith))
  next_day end k v (p ∷ l) w [] day h i is = let n = next_follows end k v (p ∷ l) day h is in (n.0, n.1, subst (IsNotPast day) (sym is) (omega arith), tt)
  next_day end k v (p ∷ l) w (q ∷ m) day h i is = go (cases_order p.0 q.0)
    where
      go : (p.0 ≡ q.0) ⊎ ((p.0 < q.0) ⊎ (q.0 < p.0)) → (k < day) × (day < end) × (day ≤ p.0) × (day ≤ q.0)
      go (inl e) = let x : p.0 ≡ day = grind (arith, is) in (omega (arith, h.0), omega (arith, h.1), omega arith, omega arith)
      go (inr (inl e)) = let x : p.0 ≡ day = grind (arith, is) in (omega (arith, h.0), omega (arith, h.1), omega arith, omega arith)
      go (inr (inr e)) = let x : q.0 ≡ day = grind (arith, is) in (omega (arith, i.0), omega (arith, i.1), omega arith, omega arith)

  pub shorter : (l : List (ℕ × X)) (m : List (ℕ × Y)) (day : ℕ) → earlier (next_of l) (next_of m) ≡ Some day → length (reached_rest day l) + length (reached_rest day m) < length l + length m
  shorter [] [] day is = cc is
  shorter [] (q ∷ m) day is = let e : (q.0 == day) ≡ true = grind (arith, is) in rw e (omega arith)
  shorter (p ∷ l) [] day is = let e : (p.0 == day) ≡ true = grind (arith, is) in rw e (omega arith)
  shorter (p ∷ l) (q ∷ m) day is = go (cases_order p.0 q.0)
    where
      at_most : {Z : Type 0} (b : Bool) (z : Z) (l : List Z) → length (cond b l (z ∷ l)) ≤ length (z ∷ l)
      at_most true z l = omega arith
      at_most false z l = omega arith

      go : (p.0 ≡ q.0) ⊎ ((p.0 < q.0) ⊎ (q.0 < p.0)) → length (cond (p.0 == day) l (p ∷ l)) + length (cond (q.0 == day) m (q ∷ m)) < length (p ∷ l) + length (q ∷ m)
      go (inl e) = let x : (p.0 == day) ≡ true = grind (arith, is) in rw x (omega (arith, at_most (q.0 == day) q m))
      go (inr (inl e)) = let x : (p.0 == day) ≡ true = grind (arith, is) in rw x (omega (arith, at_most (q.0 == day) q m))
      go (inr (inr e)) = let x : (q.0 == day) ≡ true = grind (arith, is) in rw x (omega (arith, at_most (p.0 == day) p l))

module _ {X : Type 0} where
  -- a line begins with its first pair
  pub begins : (end : ℕ) (xs : List (ℕ × X)) (x : ℕ × X) → IsLine end xs → Tracks end xs 0 (slice_index_or xs 0 x).1 (take (length xs - 1) (drop 1 xs))
  begins end [] x h = absurd h
  begins end (p ∷ l) x h = let e : take (length (p ∷ l) - 1) l ≡ l = grind (arith, common_steps) in rw e (tracks_start end p l h)

  pub first_at : (end : ℕ) (xs : List (ℕ × X)) (x : ℕ × X) → IsLine end xs → at xs 0 ≡ Some (slice_index_or xs 0 x).1
  first_at end [] x h = absurd h
  first_at end (p ∷ l) x h = ap Some (zero_at 0 p.1 l h.1)
    where
      zero_at : (d : ℕ) (v : X) (l : List (ℕ × X)) → Follows end d v l → value_from v l 0 ≡ v
      zero_at d v [] h = refl
      zero_at d v (p ∷ l) h = ap (λ b. cond b (value_from p.1 l 0) v) (lt-leb p.0 0 (omega (arith, h.0)))

pub now : {W : Type 0} (end : ℕ) (ws : List (ℕ × W)) (day : ℕ) (w : W) (l : List (ℕ × W)) → Tracks end ws day w l → at ws day ≡ Some w
now end ws day w [] t = t.tells day (omega arith)
now end ws day w (p ∷ l) t = tracks_still end ws day w (p ∷ l) t day (omega arith) t.follows.0

pub some_pair : {X : Type 0} (end : ℕ) (l : List (ℕ × X)) → IsLine end l → 0 < length l
some_pair end [] h = absurd h
some_pair end (p ∷ l) h = omega arith
