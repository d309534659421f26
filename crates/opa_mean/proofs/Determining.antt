-- By recursion on rank: more steps than the rank change nothing.
use Rattle.std.proofs.Common.{◌≡◌, ℕ, zero, suc, ◌+◌, ◌-◌, ◌<◌, List, [], ◌∷◌, Option, None, Some, Contains, refl, sym, ◌∙◌, ap, subst, arith}
use Rattle.opa_value.specs.declared.value.Value.{Value}
use Rattle.opa_model.specs.declared.ids.AttrId.{AttrId}
use Rattle.opa_cells.specs.declared.instance.InstanceId.{InstanceId}
use Rattle.opa_tree.specs.declared.rules.Rule.{Rule}
use Rattle.opa_tree.specs.Mentions.{is_attr, mentioned}
use Rattle.opa_tree.specs.Ranks.{mentions_of}
use Rattle.opa_tree.specs.Rules.{rule_of}
use Rattle.opa_tree.proofs.FirstOnesLaws.{first_ones-in}
use Rattle.opa_tree.proofs.MentionLaws.{is_attr-tells}
use Rattle.opa_mean.specs.Bases.{RanksFall}
use Rattle.opa_mean.specs.Laws.{Determined}
use Rattle.opa_mean.specs.Mean.{Base, Facts, look_of, concluded, fitted, mean_by, mean}
use Rattle.opa_mean.specs.Meaning.{value}
use Rattle.opa_mean.proofs.Agreeing.{value_same}
use Rattle.opa_mean.proofs.Everywhere.{all_of_each}

-- what stands in a tree is mentioned by its rule
pub mentioned_in : (rules : List Rule) (a : AttrId) (rule : Rule) → rule_of rules a ≡ Some rule → (m : AttrId) → Contains (mentioned rule.expr) m → Contains (mentions_of (rule_of rules a)) m
mentioned_in rules a rule is m h = subst (λ (o : Option Rule). Contains (mentions_of o) m) (sym is) (first_ones-in is_attr is_attr-tells (mentioned rule.expr) m h)

module _ (b : Base) (c : Facts) (falls : RanksFall b) where
  -- a rule's value, over what agrees below a rank
  over_lower : (a : AttrId) (f g : AttrId → InstanceId → ℕ → Value) → ((m : AttrId) → b.rank m < b.rank a → f m ≡ g m) → (rule : Rule) → rule_of b.rules a ≡ Some rule → value b.shape (look_of c f) rule.expr ≡ value b.shape (look_of c g) rule.expr
  over_lower a f g h rule is = value_same b.shape (look_of c f) (look_of c g) refl refl rule.expr (all_of_each (λ m. f m ≡ g m) (mentioned rule.expr) (λ m there. h m (falls a m (mentioned_in b.rules a rule is m there))))

  step : (a : AttrId) (f g : AttrId → InstanceId → ℕ → Value) → ((m : AttrId) → b.rank m < b.rank a → f m ≡ g m) → (i : InstanceId) (d : ℕ)
      → concluded (rule_of b.rules a) (c.answer a i d) (λ e. fitted b.shape a (value b.shape (look_of c f) e (i ∷ []) d)) ≡ concluded (rule_of b.rules a) (c.answer a i d) (λ e. fitted b.shape a (value b.shape (look_of c g) e (i ∷ []) d))
  step a f g h i d = go (rule_of b.rules a) refl
    where
      go : (o : Option Rule) → rule_of b.rules a ≡ o → concluded o (c.answer a i d) (λ e. fitted b.shape a (value b.shape (look_of c f) e (i ∷ []) d)) ≡ concluded o (c.answer a i d) (λ e. fitted b.shape a (value b.shape (look_of c g) e (i ∷ []) d))
      go None is = refl
      go (Some rule) is = ap (λ v. fitted b.shape a (v (i ∷ []) d)) (over_lower a f g h rule is)

  settles : (n : ℕ) (a : AttrId) → b.rank a < n → mean_by b c n a ≡ mean_by b c (suc n) a
  unfolding mean_by
  settles zero a lt = absurd (omega arith)
  settles (suc n) a lt = λ j i d. step a (mean_by b c n) (mean_by b c (suc n)) (λ m below. settles n m (omega arith)) i d j

  enough : (k : ℕ) (a : AttrId) → mean_by b c (suc (b.rank a)) a ≡ mean_by b c (k + suc (b.rank a)) a
  enough zero a = ap (λ n. mean_by b c n a) (omega arith)
  enough (suc k) a = enough k a ∙ settles (k + suc (b.rank a)) a (omega arith) ∙ ap (λ n. mean_by b c n a) (omega arith)

  -- at any number of steps above the rank
  pub at_rank : (n : ℕ) (a : AttrId) → b.rank a < n → mean_by b c n a ≡ mean b c a
  at_rank n a lt = sym (enough (n - suc (b.rank a)) a ∙ ap (λ k. mean_by b c k a) (omega arith))

  pub determined : Determined b c
  unfolding mean_by
  determined a i d = step a (mean_by b c (b.rank a)) (mean b c) (λ m below. at_rank (b.rank a) m below) i d
