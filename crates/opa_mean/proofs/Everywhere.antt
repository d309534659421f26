-- What holds of each item of lists that are joined.
use Rattle.std.proofs.Common.{◌≡◌, ◌⊎◌, inl, inr, List, [], ◌∷◌, ◌++◌, Contains, subst}
use Rattle.std.specs.Prelude.{map}
use Rattle.std.specs.List.{AllByRecursion}
use Rattle.opa_tree.proofs.Members.{none_in, contains_head, contains_tail, contains_cases}

module _ {X : Type 0} (P : X → Type 0) where
  pub all_parts : (xs ys : List X) → AllByRecursion P (xs ++ ys) → AllByRecursion P xs × AllByRecursion P ys
  all_parts [] ys h = (tt, h)
  all_parts (x ∷ xs) ys h = let rest = all_parts xs ys h.1 in ((h.0, rest.0), rest.1)

  pub all_append : (xs ys : List X) → AllByRecursion P xs → AllByRecursion P ys → AllByRecursion P (xs ++ ys)
  all_append [] ys h k = k
  all_append (x ∷ xs) ys h k = (h.0, all_append xs ys h.1 k)

  pub all_of_each : (xs : List X) → ((x : X) → Contains xs x → P x) → AllByRecursion P xs
  all_of_each [] h = tt
  all_of_each (x ∷ xs) h = (h x (contains_head x xs), all_of_each xs (λ y there. h y (contains_tail x y xs there)))

  pub each_of_all : (xs : List X) → AllByRecursion P xs → (x : X) → Contains xs x → P x
  each_of_all [] h x there = absurd (none_in x there)
  each_of_all (y ∷ xs) h x there = at (contains_cases y x xs there) (each_of_all xs h.1 x)
    where
      at : (y ≡ x) ⊎ Contains xs x → (Contains xs x → P x) → P x
      at (inl e) rest = subst P e h.0
      at (inr in_rest) rest = rest in_rest

pub in_map : {X Y : Type 0} (f : X → Y) (xs : List X) (x : X) → Contains xs x → Contains (map f xs) (f x)
in_map f [] x h = absurd (none_in x h)
in_map f (y ∷ xs) x h = at (contains_cases y x xs h) (in_map f xs x)
  where
    at : (y ≡ x) ⊎ Contains xs x → (Contains xs x → Contains (map f xs) (f x)) → Contains (map f (y ∷ xs)) (f x)
    at (inl e) rest = subst (λ z. Contains (map f (y ∷ xs)) (f z)) e (contains_head (f y) (map f xs))
    at (inr there) rest = contains_tail (f y) (f x) (map f xs) (rest there)
