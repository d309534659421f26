-- Ranks of attributes, and what an attribute reaches.
use Rattle.std.specs.Prelude.{ℕ, ◌≡◌, ◌+◌, ◌<◌, zero, suc, Bool, false, List, [], ◌∷◌, length, map, flat_map, Option, None, Some, is_some, slice_index_or, Contains}
use Rattle.opa_model.specs.declared.ids.AttrId.{AttrId}
use Rattle.opa_tree.specs.declared.rules.Rule.{Rule}
use Rattle.opa_tree.specs.Mentions.{mentions}
use Rattle.opa_tree.specs.Rules.{rule_of}
use Rattle.opa_tree.specs.Trees.{highest}

abbrev pub rank_at : List ℕ → AttrId → ℕ
rank_at ranks a = slice_index_or ranks a.0 0

-- what the rule of an attribute mentions; nothing where there is none
abbrev pub mentions_of : Option Rule → List AttrId
mentions_of None = []
mentions_of (Some rule) = mentions rule.expr

-- an attribute without a rule has rank 0; one with a rule has 1 plus the greatest rank that it mentions
abbrev pub rank_by : List ℕ → Option Rule → ℕ
rank_by ranks None = 0
rank_by ranks (Some rule) = 1 + highest (map (rank_at ranks) (mentions rule.expr))

-- the ranks of so many attributes, in declared order
pub record AreRanks (count : ℕ) (rules : List Rule) (ranks : List ℕ) : Type 0 where
  pub for_each : length ranks ≡ count
  pub by_rules : (a : AttrId) → a.0 < count → rank_at ranks a ≡ rank_by ranks (rule_of rules a)

-- whether each of so many attributes has a rule, in declared order
pub record AreRuled (count : ℕ) (rules : List Rule) (ruled : List Bool) : Type 0 where
  pub for_each : length ruled ≡ count
  pub by_rules : (a : AttrId) → a.0 < count → slice_index_or ruled a.0 false ≡ is_some (rule_of rules a)

-- an attribute reaches itself, and all that the rules of those it reaches mention
pub data Reaches (rules : List Rule) (a : AttrId) : AttrId → Type 0 where
  itself : Reaches rules a a
  mentioned_by : (b c : AttrId) → Reaches rules a b → Contains (mentions_of (rule_of rules b)) c → Reaches rules a c

-- what an attribute reaches by at most so many mentions, one after another
unfoldable pub reach : List Rule → ℕ → AttrId → List AttrId
reach rules zero a = a ∷ []
reach rules (suc n) a = a ∷ flat_map (reach rules n) (mentions_of (rule_of rules a))
