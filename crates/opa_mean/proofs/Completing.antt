-- A value that is known stays where more of a case is known, by recursion on rank.
use Rattle.std.proofs.Common.{◌≡◌, ◌⊎◌, inl, inr, ℕ, zero, suc, ◌<◌, ◌≤◌, List, [], ◌∷◌, Bool, true, Option, None, Some, refl, sym, ◌∙◌, ap, subst, arith}
use Rattle.std.proofs.lemmas.Bool.{cases_lt}
use Rattle.opa_value.specs.declared.value.Value.{Value}
use Rattle.opa_value.specs.declared.value.Value.TheVariants.{Unknown, Uncertain}
use Rattle.opa_value.specs.Below.{IsBelow}
use Rattle.opa_value.specs.Fit.{fit_of}
use Rattle.opa_value.proofs.BelowLaws.{below_refl, kept_below}
use Rattle.opa_model.specs.declared.ids.AttrId.{AttrId}
use Rattle.opa_model.specs.declared.ids.RelId.{RelId}
use Rattle.opa_cells.specs.declared.instance.InstanceId.{InstanceId}
use Rattle.opa_cells.specs.Instances.{global}
use Rattle.opa_tree.specs.declared.rules.Rule.{Rule}
use Rattle.opa_tree.specs.Mentions.{mentioned}
use Rattle.opa_tree.specs.Ranks.{itself}
use Rattle.opa_tree.specs.Rules.{rule_of}
use Rattle.opa_tree.proofs.ReachLaws.{reaches_through}
use Rattle.opa_mean.specs.Completion.{AreFacts, Completes, KnownStays}
use Rattle.opa_mean.specs.Frees.{IsFree, rule_is_free}
use Rattle.opa_case.specs.Shapes.{Shape}
use Rattle.opa_mean.specs.Mean.{is_money, Base, Facts, IsLive, look_of, concluded, fitted, mean_by}
use Rattle.opa_mean.specs.Meaning.{value}
use Rattle.opa_mean.proofs.Determining.{mentioned_in}
use Rattle.opa_mean.proofs.Everywhere.{all_of_each}
use Rattle.opa_mean.proofs.Freedom.{Good}
use Rattle.opa_mean.proofs.Growing.{Grows, value_grows}

-- rounding keeps unknown
pub fit_unknown : (b : Bool) → fit_of b Unknown ≡ Unknown
fit_unknown true = refl
fit_unknown _ = refl

-- a container of a live instance is live
pub above_live : (s : Shape) (c : Facts) → AreFacts s c → (i j : InstanceId) → IsLive c i → c.container i ≡ Some j → IsLive c j
above_live s c are i j live is = go (cases_lt 0 i.entity.0)
  where
    go : (0 < i.entity.0) ⊎ (i.entity.0 ≤ 0) → IsLive c j
    go (inl lt) = let k = are.contained i live lt in let same : k.container ≡ j = cc (k.is, is) in subst (IsLive c) same k.is_live
    go (inr le) = let e : i ≡ global = are.only_global i live (omega (arith, le)) in absurd (cc (is, ap c.container e, are.uncontained))

-- the rule of a free attribute is free, and so is what it mentions
pub good_rule : (b : Base) (a : AttrId) → IsFree b a → (rule : Rule) → rule_of b.rules a ≡ Some rule → Good (IsFree b) rule.expr
good_rule b a free rule is =
    (sym (ap rule_is_free is) ∙ free a itself, all_of_each (IsFree b) (mentioned rule.expr) (λ m h k r. free k (reaches_through b.rules a m k (mentioned_in b.rules a rule is m h) r)))

module _ (b : Base) (c c' : Facts) (are : AreFacts b.shape c) (h : Completes c c') where
  lists : (r : RelId) (i : InstanceId) → (c.members r i ≡ None) ⊎ (c.members r i ≡ c'.members r i)
  lists r i = go (c.members r i) refl
    where
      go : (o : Option (List (List ℕ))) → c.members r i ≡ o → (c.members r i ≡ None) ⊎ (c.members r i ≡ c'.members r i)
      go None e = inl e
      go (Some names) e = inr (e ∙ sym (h.lists r i names e))

  pub grown : (f f' : AttrId → InstanceId → ℕ → Value) → ((a : AttrId) (i : InstanceId) (d : ℕ) → IsFree b a → IsLive c i → IsBelow (f a i d) (f' a i d)) → Grows b.shape (IsLive c) (IsFree b) (look_of c f) (look_of c' f')
  grown f f' k = record { container = h.containers; above = above_live b.shape c are; members = λ r i live. lists r i; listed = λ r i names live e. are.listed r i names e; value = k }

  pub mean_grows : (n : ℕ) (a : AttrId) (i : InstanceId) (d : ℕ) → IsFree b a → IsLive c i → IsBelow (mean_by b c n a i d) (mean_by b c' n a i d)
  unfolding mean_by
  mean_grows zero a i d free live = below_refl Uncertain
  mean_grows (suc n) a i d free live = go (rule_of b.rules a) refl (mean_grows n)
    where
      go : (o : Option Rule) → rule_of b.rules a ≡ o
          → ((a : AttrId) (i : InstanceId) (d : ℕ) → IsFree b a → IsLive c i → IsBelow (mean_by b c n a i d) (mean_by b c' n a i d))
          → IsBelow (concluded o (c.answer a i d) (λ e. fitted b.shape a (value b.shape (look_of c (mean_by b c n)) e (i ∷ []) d)))
          (concluded o (c'.answer a i d) (λ e. fitted b.shape a (value b.shape (look_of c' (mean_by b c' n)) e (i ∷ []) d)))
      go None is rec = h.answers a i d
      go (Some rule) is rec =
          kept_below (fitted b.shape a) (fit_unknown (is_money (b.shape.attribute a).kind)) _ _
          (value_grows b.shape (IsLive c) (IsFree b) _ _ (grown (mean_by b c n) (mean_by b c' n) rec) rule.expr (good_rule b a free rule is) (i ∷ []) (live, tt) d)

  pub known_stays : KnownStays b c c'
  known_stays a i d free live = mean_grows (suc (b.rank a)) a i d free live
