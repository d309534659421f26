-- The first place of a row that passes, and what is kept of the earlier rows.
use Rattle.std.proofs.Common.{◌≡◌, ℕ, zero, suc, ◌+◌, ◌<◌, ◌≤◌, min, Bool, true, false, not, cond, ◌||◌, nat_lt, List, [], ◌∷◌, ◌++◌, length, position, Option, None, Some, refl, sym, ap, ap₂, ◌∙◌, subst, true≢false, ltb-true, lt-ltb, IsTrue, arith}
use Rattle.std.specs.List.{position_or_len}
use Rattle.std.specs.Option.{is_some}
use Rattle.opa_tree.specs.declared.expr.Expr.{Expr}
use Rattle.opa_tree.specs.declared.expr.Row.{Row}
use Rattle.opa_rules.specs.Reviewing.Digests.{digest}
use Rattle.opa_rules.specs.Reviewing.Earlier.{first_alike, first_always, lesser, found_or, AreKnown, IsNoted}
use Rattle.opa_rules.specs.Reviewing.Rows.{is_always, covering}
use Rattle.opa_rules.specs.Reviewing.Trees.{same_tree}
use Rattle.opa_rules.proofs.reviewing.TreeLaws.{same_tree-true, same_tree-refl}

-- ---- the first place that passes

abbrev later : Option ℕ → Option ℕ
later None = None
later (Some n) = Some (suc n)

lesser_later : (a b : Option ℕ) → lesser (later a) (later b) ≡ later (lesser a b)
lesser_later None b = refl
lesser_later (Some m) None = refl
lesser_later (Some m) (Some n) = let least : min (suc m) (suc n) ≡ suc (min m n) = grind arith in ap Some least

place_step : (b : Bool) (n m : ℕ) → cond (nat_lt (cond (not b) (1 + n) 0) (suc m)) (Some (cond (not b) (1 + n) 0)) None ≡ cond b (Some 0) (later (cond (nat_lt n m) (Some n) None))
place_step true n m = let within : nat_lt 0 (suc m) ≡ true = lt-ltb 0 (suc m) (omega arith) in ap (λ t. cond t (Some 0) None) within
place_step false n m = go (nat_lt n m) refl
  where
    go : (t : Bool) → nat_lt n m ≡ t → cond (nat_lt (1 + n) (suc m)) (Some (1 + n)) None ≡ later (cond t (Some n) None)
    go true is =
        let below : n < m = ltb-true n m is in
        let within : nat_lt (1 + n) (suc m) ≡ true = lt-ltb (1 + n) (suc m) (omega (arith, below)) in
        let next : 1 + n ≡ suc n = omega arith in
        ap (λ t. cond t (Some (1 + n)) None) within ∙ ap Some next
    go false is =
        let beyond : nat_lt (1 + n) (suc m) ≡ false = grind (arith, is) in
        ap (λ t. cond t (Some (1 + n)) None) beyond

module _ {X : Type 0} (p : X → Bool) where
  position_cons : (x : X) (xs : List X) → position p (x ∷ xs) ≡ cond (p x) (Some 0) (later (position p xs))
  position_cons x xs = place_step (p x) (position_or_len p xs) (length xs)

  pub position_push : (xs : List X) (y : X) → position p (xs ++ y ∷ []) ≡ found_or (position p xs) (p y) (length xs)
  position_push [] y = position_cons y [] ∙ go (p y)
    where
      go : (t : Bool) → cond t (Some 0) None ≡ found_or None t 0
      go true = refl
      go false = refl
  position_push (x ∷ xs) y =
      position_cons x (xs ++ y ∷ []) ∙ ap (λ o. cond (p x) (Some 0) (later o)) (position_push xs y)
      ∙ go (p x) (p y) (position p xs) (length xs)
      ∙ sym (ap (λ o. found_or o (p y) (suc (length xs))) (position_cons x xs))
    where
      go : (s t : Bool) (o : Option ℕ) (k : ℕ) → cond s (Some 0) (later (found_or o t k)) ≡ found_or (cond s (Some 0) (later o)) t (suc k)
      go true t o k = refl
      go false t (Some n) k = refl
      go false true None k = refl
      go false false None k = refl

module _ {X : Type 0} (p q : X → Bool) where
  either_first : (s t : Bool) (a b c : Option ℕ) → c ≡ lesser a b → cond (s || t) (Some 0) (later c) ≡ lesser (cond t (Some 0) (later a)) (cond s (Some 0) (later b))
  either_first true true a b c is = let least : 0 ≡ min 0 0 = grind arith in ap Some least
  either_first true false None b c is = refl
  either_first true false (Some m) b c is = let least : 0 ≡ min (suc m) 0 = grind arith in ap Some least
  either_first false true a None c is = refl
  either_first false true a (Some n) c is = let least : 0 ≡ min 0 (suc n) = grind arith in ap Some least
  either_first false false a b c is = ap later is ∙ sym (lesser_later a b)

  -- the first of either sort
  pub position_either : (xs : List X) → position (λ x. p x || q x) xs ≡ lesser (position q xs) (position p xs)
  position_either [] = refl
  position_either (x ∷ xs) =
      position_cons (λ x. p x || q x) x xs
      ∙ either_first (p x) (q x) (position q xs) (position p xs) (position (λ x. p x || q x) xs) (position_either xs)
      ∙ sym (ap₂ lesser (position_cons q x xs) (position_cons p x xs))

-- ---- what is kept of the earlier rows

pub covering_is : (rows : List Row) (e : Expr) → covering rows e ≡ lesser (first_alike rows e) (first_always rows)
covering_is rows e = position_either (λ (r : Row). is_always r.cond) (λ (r : Row). same_tree r.cond e) rows

pub found : (rows : List Row) (e : Expr) (alike : Expr → Option ℕ) (always a o : Option ℕ) → AreKnown rows alike always → a ≡ alike e → o ≡ lesser a always → o ≡ covering rows e
found rows e alike always a o known at is = is ∙ ap₂ lesser (at ∙ known.0 e) known.1 ∙ sym (covering_is rows e)

-- with the next row
pub known_more : (rows : List Row) (r : Row) (old new : Expr → Option ℕ) (before after : Option ℕ) → AreKnown rows old before → IsNoted r.cond (length rows) old new → after ≡ found_or before (is_always r.cond) (length rows)
    → AreKnown (rows ++ r ∷ []) new after
known_more rows r old new before after known noted is = (
  λ e. noted e ∙ ap (λ o. found_or o (same_tree r.cond e) (length rows)) (known.0 e) ∙ sym (position_push (λ (x : Row). same_tree x.cond e) rows r),
  is ∙ ap (λ o. found_or o (is_always r.cond) (length rows)) known.1 ∙ sym (position_push (λ (x : Row). is_always x.cond) rows r),
)

-- a condition that is there already
pub noted_before : (c : Expr) (n : ℕ) (old : Expr → Option ℕ) → is_some (old c) ≡ true → IsNoted c n old old
noted_before c n old there e = go (old e) (same_tree c e) refl refl
  where
    go : (o : Option ℕ) (t : Bool) → old e ≡ o → same_tree c e ≡ t → o ≡ found_or o t n
    go (Some m) t at is = refl
    go None true at is = absurd (true≢false (sym there ∙ ap is_some (ap old (same_tree-true c e is) ∙ at)))
    go None false at is = refl

pub noted_now : (c : Expr) (n : ℕ) (old new : Expr → Option ℕ) → is_some (old c) ≡ false → ((e : Expr) → new e ≡ cond (same_tree c e) (Some n) (old e)) → IsNoted c n old new
noted_now c n old new none updates e = updates e ∙ go (old e) (same_tree c e) refl refl
  where
    go : (o : Option ℕ) (t : Bool) → old e ≡ o → same_tree c e ≡ t → cond t (Some n) o ≡ found_or o t n
    go (Some m) true at is = absurd (true≢false (sym (ap is_some (ap old (same_tree-true c e is) ∙ at)) ∙ none))
    go (Some m) false at is = refl
    go None true at is = refl
    go None false at is = refl

pub none_known : (alike : Expr → Option ℕ) (always : Option ℕ) → ((e : Expr) → alike e ≡ None) → always ≡ None → AreKnown [] alike always
none_known alike always none not_yet = (none, not_yet)

-- ---- the digest

-- trees with different digests differ
pub other_digest : (a b : Expr) → (digest a ≡ digest b → ⊥) → false ≡ same_tree a b
other_digest a b other = go (same_tree a b) refl
  where
    go : (t : Bool) → same_tree a b ≡ t → false ≡ t
    go true is = absurd (other (ap digest (same_tree-true a b is)))
    go false is = refl
