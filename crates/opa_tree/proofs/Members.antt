-- What a list contains.
use Rattle.std.proofs.Common.{◌≡◌, ℕ, zero, suc, ◌≤◌, ◌⊎◌, max, List, [], ◌∷◌, ◌++◌, map, Contains, inl, inr, refl, sym, ap, ap₂, subst, arith}
use Rattle.std.specs.Prelude.{flat_map}
use Rattle.std.proofs.lemmas.List.Elements.{Contains-append_left, Contains-append_right, Contains-append_cases}
use Rattle.opa_tree.specs.Trees.{highest}

module _ {X : Type 0} where
  pub none_in : (x : X) → Contains [] x → ⊥
  none_in x (k, lt, is) = omega arith

  pub contains_head : (x : X) (xs : List X) → Contains (x ∷ xs) x
  contains_head x xs = (0, omega arith, refl)

  pub contains_tail : (x y : X) (xs : List X) → Contains xs y → Contains (x ∷ xs) y
  contains_tail x y xs (k, lt, is) = (suc k, omega (arith, lt), is)

  pub contains_cases : (x y : X) (xs : List X) → Contains (x ∷ xs) y → (x ≡ y) ⊎ Contains xs y
  contains_cases x y xs (zero, lt, is) = inl is
  contains_cases x y xs (suc k, lt, is) = inr (k, omega (arith, lt), is)

module _ {X Y : Type 0} (f : X → List Y) where
  -- what one of the joined lists contains, all of them contain
  pub flat_in : (xs : List X) (x : X) (y : Y) → Contains xs x → Contains (f x) y → Contains (flat_map f xs) y
  flat_in [] x y h has = absurd (none_in x h)
  flat_in (z ∷ xs) x y h has = flat_at z xs x y has (contains_cases z x xs h) (λ there. flat_in xs x y there has)
    where
      flat_at : (z : X) (xs : List X) (x : X) (y : Y) → Contains (f x) y → (z ≡ x) ⊎ Contains xs x → (Contains xs x → Contains (flat_map f xs) y) → Contains (f z ++ flat_map f xs) y
      flat_at z xs x y has (inl e) more = Contains-append_left (f z) (flat_map f xs) y (subst (λ (w : X). Contains (f w) y) (sym e) has)
      flat_at z xs x y has (inr there) more = Contains-append_right (f z) (flat_map f xs) y (more there)

  pub flat_out : (xs : List X) (y : Y) → Contains (flat_map f xs) y → (x : X) × (Contains xs x × Contains (f x) y)
  flat_out [] y h = absurd (none_in y h)
  flat_out (z ∷ xs) y h = out_at z xs y (Contains-append_cases (f z) (flat_map f xs) y h) (flat_out xs y)
    where
      out_at : (z : X) (xs : List X) (y : Y) → Contains (f z) y ⊎ Contains (flat_map f xs) y → (Contains (flat_map f xs) y → (x : X) × (Contains xs x × Contains (f x) y)) → (x : X) × (Contains (z ∷ xs) x × Contains (f x) y)
      out_at z xs y (inl here) more = (z, (contains_head z xs, here))
      out_at z xs y (inr there) more = let w = more there in (w.0, (contains_tail z w.0 xs w.1.0, w.1.1))

-- functions that agree on what a list contains
pub map_agrees : {X Y : Type 0} (f g : X → Y) (xs : List X) → ((x : X) → Contains xs x → f x ≡ g x) → map f xs ≡ map g xs
map_agrees f g [] h = refl
map_agrees f g (x ∷ xs) h = ap₂ (λ y ys. y ∷ ys) (h x (contains_head x xs)) (map_agrees f g xs (λ y there. h y (contains_tail x y xs there)))

-- no number of a list is above the greatest
pub highest_above : {X : Type 0} (f : X → ℕ) (xs : List X) (x : X) → Contains xs x → f x ≤ highest (map f xs)
highest_above f [] x h = absurd (none_in x h)
highest_above f (z ∷ xs) x h = above_at f z xs x (contains_cases z x xs h) (highest_above f xs x)
  where
    above_at : {X : Type 0} (f : X → ℕ) (z : X) (xs : List X) (x : X) → (z ≡ x) ⊎ Contains xs x → (Contains xs x → f x ≤ highest (map f xs)) → f x ≤ max (f z) (highest (map f xs))
    above_at f z xs x (inl e) more = let same : f z ≡ f x = ap f e in omega arith
    above_at f z xs x (inr there) more = let low : f x ≤ highest (map f xs) = more there in omega arith
