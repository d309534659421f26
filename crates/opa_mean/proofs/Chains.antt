-- Containers and places that are the same by two looks.
use Rattle.std.proofs.Common.{◌≡◌, ℕ, zero, suc, List, [], ◌∷◌, ◌++◌, Bool, true, false, cond, Option, None, Some, refl, sym, ◌∙◌, ap, subst}
use Rattle.std.specs.Prelude.{find, flat_map}
use Rattle.std.specs.Option.{option_map_or}
use Rattle.std.specs.List.{AllByRecursion}
use Rattle.std.proofs.lemmas.Bool.{eqb-true}
use Rattle.opa_cells.specs.declared.instance.InstanceId.{InstanceId}
use Rattle.opa_mean.specs.Places.{climb, chain, is_of, place}
use Rattle.opa_mean.proofs.Everywhere.{all_append}

-- a place is one of the instances that are gone through
found : (P : InstanceId → Type 0) (p : InstanceId → Bool) (xs : List InstanceId) (i : InstanceId) → AllByRecursion P xs → find p xs ≡ Some i → P i
found P p [] i all e = absurd (cc e)
found P p (x ∷ xs) i all e = go (p x) refl (λ e'. found P p xs i all.1 e')
  where
    go : (b : Bool) → p x ≡ b → (find p xs ≡ Some i → P i) → P i
    go true q rest = let same : x ≡ i = cc (e, ap (λ b. cond b (Some x) (find p xs)) q) in subst P same all.0
    go false q rest = rest (sym (ap (λ b. cond b (Some x) (find p xs)) q) ∙ e)

-- what holds of the instances that have something, and of their containers, holds of their places
module _ (up : InstanceId → Option InstanceId) (Live : InstanceId → Type 0) (above : (i j : InstanceId) → Live i → up i ≡ Some j → Live j) where
  climb_live : (n : ℕ) (i : InstanceId) → Live i → AllByRecursion Live (climb up n i)
  climb_live zero i live = (live, tt)
  climb_live (suc n) i live = (live, go (up i) refl (λ j there. climb_live n j there))
    where
      go : (o : Option InstanceId) → up i ≡ o → ((j : InstanceId) → Live j → AllByRecursion Live (climb up n j)) → AllByRecursion Live (option_map_or (climb up n) o [])
      go None e all = tt
      go (Some j) e all = all j (above i j live e)

  pub chain_live : (i : InstanceId) → Live i → AllByRecursion Live (chain up i)
  chain_live i live = climb_live i.entity.0 i live

  chains_live : (enclosing : List InstanceId) → AllByRecursion Live enclosing → AllByRecursion Live (flat_map (chain up) enclosing)
  chains_live [] live = tt
  chains_live (i ∷ enclosing) live = all_append Live _ _ (chain_live i live.0) (chains_live enclosing live.1)

  pub place_live : (enclosing : List InstanceId) → AllByRecursion Live enclosing → (e : ℕ) (i : InstanceId) → place up enclosing e ≡ Some i → Live i
  place_live enclosing live e i = found Live (is_of e) _ i (chains_live enclosing live)

  -- where live instances have one container by both, the chains are the same
  module _ (up' : InstanceId → Option InstanceId) (same : (i : InstanceId) → Live i → up' i ≡ up i) where
    climb_same : (n : ℕ) (i : InstanceId) → Live i → climb up' n i ≡ climb up n i
    climb_same zero i live = refl
    climb_same (suc n) i live =
        ap (λ o. i ∷ option_map_or (climb up' n) o []) (same i live) ∙ ap (λ xs. i ∷ xs) (go (up i) refl (λ j there. climb_same n j there))
      where
        go : (o : Option InstanceId) → up i ≡ o → ((j : InstanceId) → Live j → climb up' n j ≡ climb up n j) → option_map_or (climb up' n) o [] ≡ option_map_or (climb up n) o []
        go None e all = refl
        go (Some j) e all = all j (above i j live e)

    pub chain_same : (i : InstanceId) → Live i → chain up' i ≡ chain up i
    chain_same i live = climb_same i.entity.0 i live

-- where the chains of the enclosing instances are the same, the places are
pub places_same : (up up' : InstanceId → Option InstanceId) (enclosing : List InstanceId) → AllByRecursion (λ i. chain up' i ≡ chain up i) enclosing → (e : ℕ) → place up' enclosing e ≡ place up enclosing e
places_same up up' enclosing h e = ap (find (is_of e)) (chains enclosing h)
  where
    chains : (enclosing : List InstanceId) → AllByRecursion (λ i. chain up' i ≡ chain up i) enclosing → flat_map (chain up') enclosing ≡ flat_map (chain up) enclosing
    chains [] h = refl
    chains (i ∷ enclosing) h = ap (λ xs. xs ++ flat_map (chain up') enclosing) h.0 ∙ ap (λ ys. chain up i ++ ys) (chains enclosing h.1)

-- where each instance of a chain has one container by both, the chain is the same
climb_agree : (up up' : InstanceId → Option InstanceId) (n : ℕ) (i : InstanceId) → AllByRecursion (λ j. up' j ≡ up j) (climb up n i) → climb up' n i ≡ climb up n i
climb_agree up up' zero i h = refl
climb_agree up up' (suc n) i h =
    ap (λ o. i ∷ option_map_or (climb up' n) o []) h.0 ∙ ap (λ xs. i ∷ xs) (go (up i) h.1 (λ j. climb_agree up up' n j))
  where
    go : (o : Option InstanceId) → AllByRecursion (λ j. up' j ≡ up j) (option_map_or (climb up n) o []) → ((j : InstanceId) → AllByRecursion (λ j. up' j ≡ up j) (climb up n j) → climb up' n j ≡ climb up n j) → option_map_or (climb up' n) o [] ≡ option_map_or (climb up n) o []
    go None a rec = refl
    go (Some j) a rec = rec j a

pub chain_agree : (up up' : InstanceId → Option InstanceId) (i : InstanceId) → AllByRecursion (λ j. up' j ≡ up j) (chain up i) → chain up' i ≡ chain up i
chain_agree up up' i h = climb_agree up up' i.entity.0 i h

-- a place is of the entity that is sought
passes : (p : InstanceId → Bool) (xs : List InstanceId) (i : InstanceId) → find p xs ≡ Some i → p i ≡ true
passes p [] i e = absurd (cc e)
passes p (x ∷ xs) i e = go (p x) refl (λ e'. passes p xs i e')
  where
    go : (b : Bool) → p x ≡ b → (find p xs ≡ Some i → p i ≡ true) → p i ≡ true
    go true q rest = let same : x ≡ i = cc (e, ap (λ b. cond b (Some x) (find p xs)) q) in sym (ap p same) ∙ q
    go false q rest = rest (sym (ap (λ b. cond b (Some x) (find p xs)) q) ∙ e)

pub place_entity : (up : InstanceId → Option InstanceId) (enclosing : List InstanceId) (e : ℕ) (i : InstanceId) → place up enclosing e ≡ Some i → i.entity.0 ≡ e
place_entity up enclosing e i is = eqb-true i.entity.0 e (passes (is_of e) (flat_map (chain up) enclosing) i is)
