-- Places behind a listed instance.
use Rattle.std.proofs.Common.{◌≡◌, ◌≢◌, ◌⊎◌, inl, inr, ℕ, zero, suc, Bool, true, false, cond, eqb, List, [], ◌∷◌, ◌++◌, Option, Some, sym, ◌∙◌, ap}
use Rattle.std.specs.Prelude.{find, flat_map}
use Rattle.std.specs.List.{Contains}
use Rattle.std.specs.Option.{option_map_or}
use Rattle.std.proofs.lemmas.Bool.{eq-eqb}
use Rattle.std.proofs.lemmas.Bool.Decides.{eqb_tells}
use Rattle.std.proofs.lemmas.List.Elements.{Contains-push_cases}
use Rattle.opa_cells.specs.Instances.{named}
use Rattle.opa_cells.specs.declared.instance.InstanceId.{InstanceId}
use Rattle.opa_mean.specs.Gathering.{Follows}
use Rattle.opa_mean.specs.Places.{place, chain, climb, is_of}

-- behind the same instances the first one is the same
find_behind : (p : InstanceId → Bool) (xs ys zs : List InstanceId) → find p ys ≡ find p zs → find p (xs ++ ys) ≡ find p (xs ++ zs)
find_behind p [] ys zs h = h
find_behind p (x ∷ xs) ys zs h = ap (λ r. cond (p x) (Some x) r) (find_behind p xs ys zs h)

module _ (up : InstanceId → Option InstanceId) where
  climb_first : (n : ℕ) (i : InstanceId) (o : ℕ) (more : List InstanceId) → is_of o i ≡ true → find (is_of o) (climb up n i ++ more) ≡ Some i
  climb_first zero i o more is = ap (λ b. cond b (Some i) (find (is_of o) more)) is
  climb_first (suc n) i o more is = ap (λ b. cond b (Some i) (find (is_of o) (option_map_or (climb up n) (up i) [] ++ more))) is

  place_first : (i : InstanceId) (e : List InstanceId) (o : ℕ) → is_of o i ≡ true → place up (i ∷ e) o ≡ Some i
  place_first i e o is = climb_first i.entity.0 i o (flat_map (chain up) e) is

  -- the listed instance is the place of its entity, and behind it others stay the same
  pub follows_listed : (hidden : List ℕ) (target : ℕ) (name : List ℕ) (e f x y : List InstanceId) → Follows up hidden e f x y → Follows up (hidden ++ target ∷ []) e f (named target name ∷ x) (named target name ∷ y)
  follows_listed hidden target name e f x y follows o one = at (eqb_tells o target)
    where
      among : (o ≡ target → ⊥) → Contains hidden o ⊎ (target ≡ o) → Contains hidden o ⊎ (place up e o ≡ place up f o)
      among other (inl has) = inl has
      among other (inr is) = absurd (other (sym is))

      before : (o ≡ target → ⊥) → Contains (hidden ++ target ∷ []) o ⊎ (place up e o ≡ place up f o) → Contains hidden o ⊎ (place up e o ≡ place up f o)
      before other (inl has) = among other (Contains-push_cases hidden target o has)
      before other (inr same) = inr same

      at : ((eqb o target ≡ true) × (o ≡ target)) ⊎ ((eqb o target ≡ false) × (o ≢ target)) → place up (named target name ∷ x) o ≡ place up (named target name ∷ y) o
      at (inl is) = let here = eq-eqb target o (sym is.1) in place_first (named target name) x o here ∙ sym (place_first (named target name) y o here)
      at (inr not) = find_behind (is_of o) (chain up (named target name)) (flat_map (chain up) x) (flat_map (chain up) y) (follows o (before not.1 one))
