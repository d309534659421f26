-- What never asks, by what is reached and by its own rule.
use Rattle.std.proofs.Common.{◌≡◌, ◌↔◌, ◌⊎◌, inl, inr, ◌≤◌, Bool, true, ◌&&◌, List, [], ◌∷◌, length, Option, None, Some, Contains, refl, sym, ◌∙◌, ap, subst, arith}
use Rattle.std.specs.List.{list_all}
use Rattle.std.proofs.lemmas.Bool.{and_parts, and_from}
use Rattle.opa_io.proofs.Bools.{same_truth}
use Rattle.opa_model.specs.declared.ids.AttrId.{AttrId}
use Rattle.opa_tree.specs.declared.rulebase.Rulebase.{Rulebase}
use Rattle.opa_tree.specs.declared.rules.Rule.{Rule}
use Rattle.opa_tree.specs.Ranks.{rank_at, mentions_of, Reaches, itself, mentioned_by, reach}
use Rattle.opa_tree.specs.Rules.{rule_of}
use Rattle.opa_tree.proofs.Members.{none_in, contains_head, contains_tail, contains_cases}
use Rattle.opa_tree.proofs.RankLaws.{rule_declared}
use Rattle.opa_tree.proofs.ReachLaws.{reaches_reach, reach_reaches, reaches_through}
use Rattle.opa_mean.specs.Frees.{rule_is_free, IsFree}
use Rattle.opa_mean.specs.Given.{base_of}
use Rattle.opa_mean.specs.Goals.Freedom.{never_asks}

-- all pass exactly where each one does
pub each_passes : {X : Type 0} (p : X → Bool) (xs : List X) → list_all p xs ≡ true → (x : X) → Contains xs x → p x ≡ true
each_passes p [] h x there = absurd (none_in x there)
each_passes p (y ∷ xs) h x there = let both = and_parts (p y) (list_all p xs) h in go (contains_cases y x xs there) both.0 (each_passes p xs both.1 x)
  where
    go : (y ≡ x) ⊎ Contains xs x → p y ≡ true → (Contains xs x → p x ≡ true) → p x ≡ true
    go (inl e) own rest = sym (ap p e) ∙ own
    go (inr k) own rest = rest k

pub all_pass : {X : Type 0} (p : X → Bool) (xs : List X) → ((x : X) → Contains xs x → p x ≡ true) → list_all p xs ≡ true
all_pass p [] h = refl
all_pass p (x ∷ xs) h = ap (λ b. b && list_all p xs) (h x (contains_head x xs)) ∙ all_pass p xs (λ y there. h y (contains_tail x y xs there))

-- what agrees on a list passes it alike
pub all_alike : {X : Type 0} (p q : X → Bool) (xs : List X) → ((x : X) → Contains xs x → p x ≡ q x) → list_all p xs ≡ list_all q xs
all_alike p q [] h = refl
all_alike p q (x ∷ xs) h = ap (λ b. b && list_all p xs) (h x (contains_head x xs)) ∙ ap (λ b. q x && b) (all_alike p q xs (λ y there. h y (contains_tail x y xs there)))

module _ (r : Rulebase) where
  abbrev its : AttrId → List AttrId
  its a = mentions_of (rule_of r.rules a)

  pub never_is_free : (a : AttrId) → never_asks (base_of r) a ≡ true → IsFree (base_of r) a
  never_is_free a h m reached = each_passes (λ m. rule_is_free (rule_of r.rules m)) (reach r.rules (rank_at r.ranks a) a) h m
      (reaches_reach r.rules (length r.model.attributes) r.ranks r.sound.attributes_declared r.ranked a m reached)

  pub free_never_asks : (a : AttrId) → IsFree (base_of r) a → never_asks (base_of r) a ≡ true
  free_never_asks a free = all_pass (λ m. rule_is_free (rule_of r.rules m)) (reach r.rules (rank_at r.ranks a) a) (λ m there. free m (reach_reaches r.rules (rank_at r.ranks a) a m there))

  pub free_is_found : (a : AttrId) → (never_asks (base_of r) a ≡ true) ↔ IsFree (base_of r) a
  free_is_found a = (never_is_free a, free_never_asks a)

  -- what is reached is the attribute itself, or reached from what its rule mentions
  first_step : (a c : AttrId) → Reaches r.rules a c → (a ≡ c) ⊎ ((m : AttrId) × (Contains (its a) m × Reaches r.rules m c))
  first_step a _ itself = inl refl
  first_step a _ (mentioned_by b c reached there) = go (first_step a b reached)
    where
      go : (a ≡ b) ⊎ ((m : AttrId) × (Contains (its a) m × Reaches r.rules m b)) → (a ≡ c) ⊎ ((m : AttrId) × (Contains (its a) m × Reaches r.rules m c))
      go (inl e) = inr (c, (subst (λ (x : AttrId). Contains (its x) c) (sym e) there, itself))
      go (inr k) = inr (k.0, (k.1.0, mentioned_by b c k.1.1 there))

  free_through : (a m : AttrId) → IsFree (base_of r) a → Contains (its a) m → IsFree (base_of r) m
  free_through a m free there c reached = free c (reaches_through r.rules a m c there reached)

  free_from : (a : AttrId) → rule_is_free (rule_of r.rules a) ≡ true → ((m : AttrId) → Contains (its a) m → IsFree (base_of r) m) → IsFree (base_of r) a
  free_from a own rest c reached = go (first_step a c reached)
    where
      go : (a ≡ c) ⊎ ((m : AttrId) × (Contains (its a) m × Reaches r.rules m c)) → rule_is_free (rule_of r.rules c) ≡ true
      go (inl e) = sym (ap (λ (x : AttrId). rule_is_free (rule_of r.rules x)) e) ∙ own
      go (inr k) = rest k.0 k.1.0 c k.1.1

  -- by the rule, and by what it mentions
  pub never_by : (a : AttrId) → never_asks (base_of r) a ≡ (rule_is_free (rule_of r.rules a) && list_all (never_asks (base_of r)) (its a))
  never_by a = same_truth _ _
      (λ h. let free = never_is_free a h in
      and_from _ _ (free a itself) (all_pass (never_asks (base_of r)) (its a) (λ m there. free_never_asks m (free_through a m free there))))
      (λ h. let both = and_parts _ _ h in
      free_never_asks a (free_from a both.0 (λ m there. never_is_free m (each_passes (never_asks (base_of r)) (its a) both.1 m there))))

  -- an attribute that isn't declared has no rule
  no_rule : (a : AttrId) → length r.model.attributes ≤ a.0 → rule_of r.rules a ≡ None
  no_rule a past = go (rule_of r.rules a) refl
    where
      go : (o : Option Rule) → rule_of r.rules a ≡ o → o ≡ None
      go None e = refl
      go (Some rule) e = let within = rule_declared (length r.model.attributes) r.rules a rule r.sound.attributes_declared e in absurd (omega (arith, within, past))

  pub undeclared_never_asks : (a : AttrId) → length r.model.attributes ≤ a.0 → never_asks (base_of r) a ≡ true
  undeclared_never_asks a past = never_by a ∙ ap (λ o. rule_is_free o && list_all (never_asks (base_of r)) (mentions_of o)) (no_rule a past)
