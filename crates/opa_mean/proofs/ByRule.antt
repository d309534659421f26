-- The needs of a point, by its rule over the determination.
use Rattle.std.proofs.Common.{◌≡◌, ℕ, zero, suc, ◌+◌, ◌-◌, ◌<◌, List, [], ◌∷◌, Option, None, Some, refl, sym, ◌∙◌, ap, arith}
use Rattle.opa_value.specs.declared.value.Value.{Value}
use Rattle.opa_model.specs.declared.ids.AttrId.{AttrId}
use Rattle.opa_cells.specs.declared.instance.InstanceId.{InstanceId}
use Rattle.opa_tree.specs.declared.rules.Rule.{Rule}
use Rattle.opa_tree.specs.Mentions.{mentioned}
use Rattle.opa_tree.specs.Rules.{rule_of}
use Rattle.opa_mean.specs.Bases.{RanksFall}
use Rattle.opa_mean.specs.Mean.{Base, Facts, look_of, mean_by, mean}
use Rattle.opa_mean.specs.Needs.{asked, needs, needs_or, needs_by}
use Rattle.opa_mean.specs.Uses.{Use, Point}
use Rattle.opa_mean.proofs.Determining.{mentioned_in, at_rank}
use Rattle.opa_mean.proofs.Everywhere.{all_of_each}
use Rattle.opa_mean.specs.PartNeeds.{point_needs, tree_needs}
use Rattle.opa_mean.proofs.NeedsSame.{needs_same}

module _ (b : Base) (c : Facts) (falls : RanksFall b) where
  abbrev Values : Type 0
  Values = AttrId → InstanceId → ℕ → Value

  abbrev Needs : Type 0
  Needs = AttrId → InstanceId → ℕ → List Use

  step : (a : AttrId) (f g : Values) (p q : Needs) → ((m : AttrId) → b.rank m < b.rank a → (f m ≡ g m) × (p m ≡ q m)) → (i : InstanceId) (d : ℕ)
      → needs_or (rule_of b.rules a) (Point a i d ∷ []) (λ e. needs b.shape (look_of c f) (asked b.shape c.members) p e (i ∷ []) d)
      ≡ needs_or (rule_of b.rules a) (Point a i d ∷ []) (λ e. needs b.shape (look_of c g) (asked b.shape c.members) q e (i ∷ []) d)
  step a f g p q h i d = go (rule_of b.rules a) refl
    where
      go : (o : Option Rule) → rule_of b.rules a ≡ o → needs_or o (Point a i d ∷ []) (λ e. needs b.shape (look_of c f) (asked b.shape c.members) p e (i ∷ []) d)
          ≡ needs_or o (Point a i d ∷ []) (λ e. needs b.shape (look_of c g) (asked b.shape c.members) q e (i ∷ []) d)
      go None is = refl
      go (Some rule) is = needs_same b.shape c f g (asked b.shape c.members) p q rule.expr
          (all_of_each (λ m. (f m ≡ g m) × (p m ≡ q m)) (mentioned rule.expr) (λ m there. h m (falls a m (mentioned_in b.rules a rule is m there)))) (i ∷ []) d

  settled_values : (n : ℕ) (a m : AttrId) → b.rank m < b.rank a → b.rank a < suc n → mean_by b c n m ≡ mean_by b c (suc n) m
  settled_values n a m below lt = at_rank b c falls n m (omega arith) ∙ sym (at_rank b c falls (suc n) m (omega arith))

  settles : (n : ℕ) (a : AttrId) → b.rank a < n → needs_by b c n a ≡ needs_by b c (suc n) a
  unfolding needs_by
  settles zero a lt = absurd (omega arith)
  settles (suc n) a lt = λ j i d. step a (mean_by b c n) (mean_by b c (suc n)) (needs_by b c n) (needs_by b c (suc n)) (λ m below. (settled_values n a m below lt, settles n m (omega arith))) i d j

  enough : (k : ℕ) (a : AttrId) → needs_by b c (suc (b.rank a)) a ≡ needs_by b c (k + suc (b.rank a)) a
  enough zero a = ap (λ n. needs_by b c n a) (omega arith)
  enough (suc k) a = enough k a ∙ settles (k + suc (b.rank a)) a (omega arith) ∙ ap (λ n. needs_by b c n a) (omega arith)

  needs_at_rank : (n : ℕ) (a : AttrId) → b.rank a < n → needs_by b c n a ≡ point_needs b c a
  needs_at_rank n a lt = sym (enough (n - suc (b.rank a)) a ∙ ap (λ k. needs_by b c k a) (omega arith))

  -- the point itself where it has no rule, else the needs of its rule's tree
  pub by_its_rule : (a : AttrId) (i : InstanceId) (d : ℕ) → point_needs b c a i d ≡ needs_or (rule_of b.rules a) (Point a i d ∷ []) (λ e. tree_needs b c e (i ∷ []) d)
  unfolding needs_by
  by_its_rule a i d = step a (mean_by b c (b.rank a)) (mean b c) (needs_by b c (b.rank a)) (point_needs b c) (λ m below. (at_rank b c falls (b.rank a) m below, needs_at_rank (b.rank a) m below)) i d
