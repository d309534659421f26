-- Whether something is among the first so many.
use Rattle.std.proofs.Common.{◌≡◌, ℕ, zero, suc, ◌+◌, Bool, true, false, ◌||◌, List, [], ◌∷◌, take, slice_get, Option, Some, refl, sym, ap, ◌∙◌, arith}
use Rattle.std.specs.List.{list_any}
use Rattle.std.proofs.lemmas.Option.{same_Some}

or_more : (x y z : Bool) → (x || (y || z)) ≡ ((x || y) || z)
or_more true y z = refl
or_more false y z = refl

or_none : (x : Bool) → (x || false) ≡ x
or_none true = refl
or_none false = refl

module _ {X : Type 0} (p : X → Bool) where
  any_next : (n : ℕ) (xs : List X) (x : X) → slice_get xs n ≡ Some x → list_any p (take (suc n) xs) ≡ (list_any p (take n xs) || p x)
  any_next n [] x is = absurd (cc is)
  any_next zero (y ∷ xs) x is = let same : y ≡ x = same_Some y x is in or_none (p y) ∙ ap p same
  any_next (suc n) (y ∷ xs) x is = ap (λ b. p y || b) (any_next n xs x is) ∙ or_more (p y) (list_any p (take n xs)) (p x)

  pub any_more : (n : ℕ) (xs : List X) (x : X) → slice_get xs n ≡ Some x → list_any p (take (n + 1) xs) ≡ (list_any p (take n xs) || p x)
  any_more n xs x is = let next : n + 1 ≡ suc n = omega arith in ap (λ k. list_any p (take k xs)) next ∙ any_next n xs x is
