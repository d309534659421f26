-- Tables of marks, one for each attribute in declared order, that are filled rank by rank.
use Rattle.std.specs.Prelude.{ℕ, ◌≡◌, ◌⊎◌, ◌+◌, ◌<◌, ◌≤◌, Bool, true, false, ◌&&◌, ◌||◌, List, [], length, slice_index_or, Option, None, Some, Contains, if◌then◌else◌}
use Rattle.std.specs.List.{list_all, list_any}
use Rattle.opa_model.specs.declared.ids.AttrId.{AttrId}
use Rattle.opa_model.specs.Models.{HasAttribute}
use Rattle.opa_tree.specs.declared.rulebase.Rulebase.{Rulebase}
use Rattle.opa_tree.specs.declared.rules.Rule.{Rule}
use Rattle.opa_tree.specs.Mentions.{is_attr, mentions}
use Rattle.opa_tree.specs.Ranks.{rank_at, mentions_of}
use Rattle.opa_tree.specs.Rules.{rule_of}
use Rattle.opa_rules.specs.Reviewing.Looking.{IsLookedAt, goes_over_none, is_looked_at, is_settled}

-- whether an attribute is marked; past the end of the table it isn't
abbrev pub told : List Bool → AttrId → Bool
told marks a = slice_index_or marks a.0 false

-- the attributes are marked besides
pub record AddsMarks (old : List Bool) (attrs : List AttrId) (new : List Bool) : Type 0 where
  pub long : length new ≡ length old
  pub told_of : (a : AttrId) → a.0 < length old → told new a ≡ (told old a || list_any (is_attr a) attrs)

-- the table tells of each declared attribute whether a goal looks at it
pub record AreSeen (base : Rulebase) (marks : List Bool) : Type 0 where
  pub right : (a : AttrId) → HasAttribute base.model a → told marks a ≡ is_looked_at base a

-- what the rule of a marked attribute mentions
abbrev pub passed_on : Rulebase → List Bool → AttrId → List AttrId
passed_on base marks a = if told marks a then mentions_of (rule_of base.rules a) else []

-- of the attributes of a rank of n or above, and of those of a list, whose rank is the one below n
abbrev pub IsPast : Rulebase → ℕ → List AttrId → AttrId → Type 0
IsPast base n done a = (n ≤ rank_at base.ranks a) ⊎ ((rank_at base.ranks a + 1 ≡ n) × Contains done a)

-- the goals are marked and only what is looked at; and what the rules of those that are marked mention, where they are past
pub record AreSpread (base : Rulebase) (n : ℕ) (done : List AttrId) (marks : List Bool) : Type 0 where
  pub long : length marks ≡ length base.model.attributes
  pub goals : (g : AttrId) → Contains base.model.goals g → told marks g ≡ true
  pub only : (a : AttrId) → told marks a ≡ true → IsLookedAt base a
  pub spread : (a m : AttrId) → told marks a ≡ true → IsPast base n done a → Contains (mentions_of (rule_of base.rules a)) m → HasAttribute base.model m → told marks m ≡ true

-- the table tells of each attribute whether it is settled
pub record AreSettled (base : Rulebase) (marks : List Bool) : Type 0 where
  pub right : (a : AttrId) → told marks a ≡ is_settled base a

-- the rule goes over no list, and what it mentions is settled by the table
abbrev pub settled_by : List Bool → Option Rule → Bool
settled_by marks None = false
settled_by marks (Some rule) = goes_over_none (Some rule) && list_all (told marks) (mentions rule.expr)

-- of the attributes of a rank below n, and of those of a list
abbrev pub IsDone : Rulebase → ℕ → List AttrId → AttrId → Type 0
IsDone base n done a = (rank_at base.ranks a < n) ⊎ Contains done a

-- the table tells it of those
pub record AreSettledUpTo (base : Rulebase) (n : ℕ) (done : List AttrId) (marks : List Bool) : Type 0 where
  pub right : (a : AttrId) → IsDone base n done a → told marks a ≡ is_settled base a
