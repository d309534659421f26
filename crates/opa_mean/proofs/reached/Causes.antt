-- What a list contains that passes a test.
use Rattle.std.proofs.Common.{◌≡◌, ◌⊎◌, inl, inr, List, [], ◌∷◌, Bool, true, false, Contains, refl, sym, ◌∙◌, ap}
use Rattle.std.specs.Prelude.{◌||◌}
use Rattle.std.specs.List.{list_any}
use Rattle.opa_tree.proofs.Members.{none_in, contains_head, contains_tail, contains_cases}

-- something passes
pub witness : {X : Type 0} (p : X → Bool) (xs : List X) → list_any p xs ≡ true → (x : X) × (Contains xs x × (p x ≡ true))
witness p [] h = absurd (cc h)
witness {X = X} p (y ∷ xs) h = go (p y) refl (witness p xs)
  where
    go : (b : Bool) → p y ≡ b → (list_any p xs ≡ true → (x : X) × (Contains xs x × (p x ≡ true))) → (x : X) × (Contains (y ∷ xs) x × (p x ≡ true))
    go true e rest = (y, (contains_head y xs, e))
    go false e rest = let w = rest (sym (ap (λ b. b || list_any p xs) e) ∙ h) in (w.0, (contains_tail y w.0 xs w.1.0, w.1.1))

pub passes_in : {X : Type 0} (p : X → Bool) (xs : List X) (x : X) → Contains xs x → p x ≡ true → list_any p xs ≡ true
passes_in p [] x h e = absurd (none_in x h)
passes_in {X = X} p (y ∷ xs) x h e = go (contains_cases y x xs h) (passes_in p xs x)
  where
    here : (a b : Bool) → a ≡ true → (a || b) ≡ true
    here true b h = refl
    here false b h = absurd (cc h)

    there : (a b : Bool) → b ≡ true → (a || b) ≡ true
    there true b h = refl
    there false b h = h

    go : (y ≡ x) ⊎ Contains xs x → (Contains xs x → p x ≡ true → list_any p xs ≡ true) → (p y || list_any p xs) ≡ true
    go (inl same) rec = here (p y) (list_any p xs) (ap p same ∙ e)
    go (inr h) rec = there (p y) (list_any p xs) (rec h e)
