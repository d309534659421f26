-- The same rules, wherever they stand, conclude the same.
use Rattle.std.proofs.Common.{◌≡◌, ℕ, zero, suc, ◌+◌, ◌<◌, ◌==◌, Bool, true, false, cond, List, [], ◌∷◌, map, length, Option, None, Some, refl, sym, ◌∙◌, ap, subst}
use Rattle.std.specs.Prelude.{find}
use Rattle.std.specs.Option.{option_map}
use Rattle.std.proofs.Math.Path.{fun_ext}
use Rattle.opa_value.specs.declared.value.Value.{Value}
use Rattle.opa_model.specs.declared.ids.AttrId.{AttrId}
use Rattle.opa_model.specs.declared.lists.Lists.{Lists}
use Rattle.opa_cells.specs.declared.instance.InstanceId.{InstanceId}
use Rattle.opa_case.specs.Shapes.{Shape, shape_of}
use Rattle.opa_tree.specs.declared.expr.Expr.{Expr}
use Rattle.opa_tree.specs.declared.rulebase.Rulebase.{Rulebase}
use Rattle.opa_tree.specs.declared.rules.Rule.{Rule}
use Rattle.opa_tree.specs.Mentions.{mentions}
use Rattle.opa_tree.specs.Ranks.{AreRanks, rank_at, rank_by}
use Rattle.opa_tree.specs.Rules.{rule_of, concludes}
use Rattle.opa_tree.specs.Trees.{highest}
use Rattle.opa_tree.proofs.RankLaws.{ranks_unique}
use Rattle.opa_mean.specs.Given.{base_of, facts_of}
use Rattle.opa_mean.specs.Mean.{Base, Facts, look_of, concluded, fitted, mean_by}
use Rattle.opa_mean.specs.Meaning.{value}
use Rattle.opa_rules.specs.Printing.Same.{said, IsSame}
use Rattle.opa_rules.specs.Printing.SameMeaning.{SameMeaning}

abbrev Said : Type 0
Said = AttrId × Expr × Bool

-- the first rule of an attribute, among what rules say
abbrev is_of : AttrId → Said → Bool
is_of a t = t.0.0 == a.0

found : (rules : List Rule) (a : AttrId) → option_map said (rule_of rules a) ≡ find (is_of a) (map said rules)
found [] a = refl
found (rule ∷ rules) a = go (concludes a rule) (found rules a)
  where
    go : (b : Bool) → option_map said (rule_of rules a) ≡ find (is_of a) (map said rules) → option_map said (cond b (Some rule) (find (concludes a) rules)) ≡ cond b (Some (said rule)) (find (is_of a) (map said rules))
    go true rest = refl
    go false rest = rest

same_rule : (rules others : List Rule) → map said rules ≡ map said others → (a : AttrId) → option_map said (rule_of rules a) ≡ option_map said (rule_of others a)
same_rule rules others same a = found rules a ∙ ap (find (is_of a)) same ∙ sym (found others a)

-- what a rule concludes, and its rank, are known by what it says
abbrev concluded_by : Option Said → Value → (Expr → Value) → Value
concluded_by None answer f = answer
concluded_by (Some t) answer f = f t.1

by_said : (o : Option Rule) (answer : Value) (f : Expr → Value) → concluded o answer f ≡ concluded_by (option_map said o) answer f
by_said None answer f = refl
by_said (Some rule) answer f = refl

concluded_same : (o p : Option Rule) → option_map said o ≡ option_map said p → (answer : Value) (f : Expr → Value) → concluded o answer f ≡ concluded p answer f
concluded_same o p same answer f = by_said o answer f ∙ ap (λ (q : Option Said). concluded_by q answer f) same ∙ sym (by_said p answer f)

abbrev ranked_by : List ℕ → Option Said → ℕ
ranked_by ranks None = 0
ranked_by ranks (Some t) = 1 + highest (map (rank_at ranks) (mentions t.1))

rank_by_said : (ranks : List ℕ) (o : Option Rule) → rank_by ranks o ≡ ranked_by ranks (option_map said o)
rank_by_said ranks None = refl
rank_by_said ranks (Some rule) = refl

rank_by_same : (ranks : List ℕ) (o p : Option Rule) → option_map said o ≡ option_map said p → rank_by ranks o ≡ rank_by ranks p
rank_by_same ranks o p same = rank_by_said ranks o ∙ ap (ranked_by ranks) same ∙ sym (rank_by_said ranks p)

abbrev of : Shape → List Rule → List ℕ → Base
of s rules ranks = record { shape = s; rules = rules; rank = rank_at ranks }

module _ (s : Shape) (ranks : List ℕ) (rules others : List Rule) (same : map said rules ≡ map said others) (c : Facts) where
  -- what rules give, over the values of what they mention
  abbrev by_rules : List Rule → (AttrId → InstanceId → ℕ → Value) → AttrId → InstanceId → ℕ → Value
  by_rules rs m a i d = concluded (rule_of rs a) (c.answer a i d) (λ e. fitted s a (value s (look_of c m) e (i ∷ []) d))

  step : (m : AttrId → InstanceId → ℕ → Value) (a : AttrId) (i : InstanceId) (d : ℕ) → by_rules rules m a i d ≡ by_rules others m a i d
  step m a i d = concluded_same (rule_of rules a) (rule_of others a) (same_rule rules others same a) (c.answer a i d) (λ e. fitted s a (value s (look_of c m) e (i ∷ []) d))

  mean_same : (n : ℕ) → mean_by (of s rules ranks) c n ≡ mean_by (of s others ranks) c n
  unfolding mean_by
  mean_same zero = refl
  mean_same (suc n) =
      ap (by_rules rules) (mean_same n) ∙ fun_ext (λ a. fun_ext (λ i. fun_ext (λ d. step (mean_by (of s others ranks) c n) a i d)))

module _ (base other : Rulebase) (same : IsSame base other) where
  also_ranked : AreRanks (length base.model.attributes) base.rules other.ranks
  also_ranked = record {
    for_each = other.ranked.for_each ∙ ap (λ (m : Lists). length m.attributes) (sym same.model);
    by_rules = λ a lt. other.ranked.by_rules a (subst (λ (m : Lists). a.0 < length m.attributes) same.model lt)
        ∙ sym (rank_by_same other.ranks (rule_of base.rules a) (rule_of other.rules a) (same_rule base.rules other.rules same.rules a));
  }

  same_ranks : base.ranks ≡ other.ranks
  same_ranks = ranks_unique (length base.model.attributes) base.rules base.ranks other.ranks base.sound.attributes_declared base.ranked also_ranked

  means : (c : Facts) (n : ℕ) → mean_by (base_of base) c n ≡ mean_by (base_of other) c n
  means c n =
      mean_same (shape_of base.model) base.ranks base.rules other.rules same.rules c n
      ∙ ap (λ (m : Lists). mean_by (of (shape_of m) other.rules base.ranks) c n) same.model
      ∙ ap (λ (ranks : List ℕ). mean_by (of (shape_of other.model) other.rules ranks) c n) same_ranks

pub same_meaning : SameMeaning
same_meaning base other same c a i d =
    ap (λ (ranks : List ℕ). mean_by (base_of base) (facts_of c) (suc (rank_at ranks a)) a i d) (same_ranks base other same)
    ∙ ap (λ (m : AttrId → InstanceId → ℕ → Value). m a i d) (means base other same (facts_of c) (suc (rank_at other.ranks a)))
