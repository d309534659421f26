-- What an attribute reaches is found by as many mentions as its rank says.
use Rattle.std.proofs.Common.{◌≡◌, ℕ, zero, suc, ◌<◌, ◌≤◌, ◌⊎◌, List, [], ◌∷◌, Contains, inl, inr, refl, sym, subst, arith}
use Rattle.std.specs.Prelude.{flat_map}
use Rattle.opa_model.specs.declared.ids.AttrId.{AttrId}
use Rattle.opa_tree.specs.declared.rules.Rule.{Rule}
use Rattle.opa_tree.specs.Laws.{AreDeclared}
use Rattle.opa_tree.specs.Ranks.{rank_at, mentions_of, AreRanks, Reaches, itself, mentioned_by, reach}
use Rattle.opa_tree.specs.Rules.{rule_of}
use Rattle.opa_tree.proofs.Members.{none_in, contains_head, contains_tail, contains_cases, flat_in, flat_out}
use Rattle.opa_tree.proofs.RankLaws.{ranks_fall}

module _ (rules : List Rule) where
  abbrev its : AttrId → List AttrId
  its a = mentions_of (rule_of rules a)

  pub reach_zero : (a : AttrId) → reach rules zero a ≡ a ∷ []
  unfolding reach
  reach_zero a = refl

  pub reach_suc : (n : ℕ) (a : AttrId) → reach rules (suc n) a ≡ a ∷ flat_map (reach rules n) (its a)
  unfolding reach
  reach_suc n a = refl

  -- what a mentioned attribute reaches is reached
  pub reaches_through : (a b c : AttrId) → Contains (its a) b → Reaches rules b c → Reaches rules a c
  reaches_through a b _ m itself = mentioned_by a b itself m
  reaches_through a b _ m (mentioned_by d c r more) = mentioned_by d c (reaches_through a b d m r) more

  pub reach_self : (n : ℕ) (a : AttrId) → Contains (reach rules n a) a
  reach_self zero a = subst (λ (xs : List AttrId). Contains xs a) (sym (reach_zero a)) (contains_head a [])
  reach_self (suc n) a = subst (λ (xs : List AttrId). Contains xs a) (sym (reach_suc n a)) (contains_head a _)

  pub reach_more : (n : ℕ) (a b c : AttrId) → Contains (its a) b → Contains (reach rules n b) c → Contains (reach rules (suc n) a) c
  reach_more n a b c m h = subst (λ (xs : List AttrId). Contains xs c) (sym (reach_suc n a)) (contains_tail a c _ (flat_in (reach rules n) (its a) b c m h))

  pub reach_reaches : (n : ℕ) (a b : AttrId) → Contains (reach rules n a) b → Reaches rules a b
  reach_reaches zero a b h = go (contains_cases a b [] (subst (λ (xs : List AttrId). Contains xs b) (reach_zero a) h))
    where
      go : (a ≡ b) ⊎ Contains [] b → Reaches rules a b
      go (inl e) = subst (λ (x : AttrId). Reaches rules a x) e itself
      go (inr none) = absurd (none_in b none)
  reach_reaches (suc n) a b h = go (contains_cases a b _ (subst (λ (xs : List AttrId). Contains xs b) (reach_suc n a) h)) (λ m. reach_reaches n m b)
    where
      go : (a ≡ b) ⊎ Contains (flat_map (reach rules n) (its a)) b → ((m : AttrId) → Contains (reach rules n m) b → Reaches rules m b) → Reaches rules a b
      go (inl e) more = subst (λ (x : AttrId). Reaches rules a x) e itself
      go (inr there) more = let w = flat_out (reach rules n) (its a) b there in reaches_through a w.0 b w.1.0 (more w.0 w.1.1)

  module _ (count : ℕ) (ranks : List ℕ) (all : AreDeclared count rules) (are : AreRanks count rules ranks) where
    closed_same : (n : ℕ) (a b c : AttrId) → a ≡ b → Contains (its b) c → Contains (reach rules (suc n) a) c
    closed_same n a b c e m = reach_more n a c c (subst (λ (x : AttrId). Contains (its x) c) (sym e) m) (reach_self n c)

    pub reach_closed : (n : ℕ) (a b c : AttrId) → rank_at ranks a ≤ n → Contains (reach rules n a) b → Contains (its b) c → Contains (reach rules n a) c
    reach_closed zero a b c le h m = go (contains_cases a b [] (subst (λ (xs : List AttrId). Contains xs b) (reach_zero a) h))
      where
        go : (a ≡ b) ⊎ Contains [] b → Contains (reach rules zero a) c
        go (inl e) = let falls : rank_at ranks c < rank_at ranks a = ranks_fall count rules ranks all are a c (subst (λ (x : AttrId). Contains (its x) c) (sym e) m) in absurd (omega arith)
        go (inr none) = absurd (none_in b none)
    reach_closed (suc n) a b c le h m = go (contains_cases a b _ (subst (λ (xs : List AttrId). Contains xs b) (reach_suc n a) h)) (λ d low. reach_closed n d b c low)
      where
        go : (a ≡ b) ⊎ Contains (flat_map (reach rules n) (its a)) b → ((d : AttrId) → rank_at ranks d ≤ n → Contains (reach rules n d) b → Contains (its b) c → Contains (reach rules n d) c) → Contains (reach rules (suc n) a) c
        go (inl e) more = closed_same n a b c e m
        go (inr there) more =
            let w = flat_out (reach rules n) (its a) b there in
            let falls : rank_at ranks w.0 < rank_at ranks a = ranks_fall count rules ranks all are a w.0 w.1.0 in
            let low : rank_at ranks w.0 ≤ n = omega arith in
            reach_more n a w.0 c w.1.0 (more w.0 low w.1.1 m)

    pub reaches_reach : (a b : AttrId) → Reaches rules a b → Contains (reach rules (rank_at ranks a) a) b
    reaches_reach a _ itself = reach_self (rank_at ranks a) a
    reaches_reach a _ (mentioned_by d b r m) = reach_closed (rank_at ranks a) a d b (omega arith) (reaches_reach a d r) m
