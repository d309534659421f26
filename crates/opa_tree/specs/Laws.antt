-- What holds of mentions, of ranks, and of what an attribute reaches.
use Rattle.std.specs.Prelude.{ℕ, ◌≡◌, ◌≢◌, ◌<◌, ◌↔◌, List, Some, All, AllPairs, Contains}
use Rattle.opa_model.specs.declared.ids.AttrId.{AttrId}
use Rattle.opa_tree.specs.declared.expr.Expr.{Expr}
use Rattle.opa_tree.specs.declared.rules.Rule.{Rule}
use Rattle.opa_tree.specs.Mentions.{mentioned, mentions}
use Rattle.opa_tree.specs.Ranks.{rank_at, mentions_of, AreRanks, Reaches, reach}
use Rattle.opa_tree.specs.Rules.{rule_of}

-- the mentions of a tree differ, and they are the attributes that stand in it
abbrev pub MentionsAreEachOnce : Type 0
MentionsAreEachOnce = (e : Expr) → AllPairs (λ a b. a ≢ b) (mentions e) × ((a : AttrId) → Contains (mentions e) a ↔ Contains (mentioned e) a)

-- where no two rules conclude one attribute, each rule is the rule of its attribute
abbrev pub RulesAreFound : Type 0
RulesAreFound = (rules : List Rule) → AllPairs (λ r s. r.attr ≢ s.attr) rules → (r : Rule) → Contains rules r → rule_of rules r.attr ≡ Some r

-- each rule concludes one of so many attributes
abbrev pub AreDeclared : ℕ → List Rule → Type 0
AreDeclared count rules = All (λ r. r.attr.0 < count) rules

-- a rule mentions attributes of lower rank than its own
abbrev pub RanksFall : Type 0
RanksFall = (count : ℕ) (rules : List Rule) (ranks : List ℕ) → AreDeclared count rules → AreRanks count rules ranks
    → (a b : AttrId) → Contains (mentions_of (rule_of rules a)) b → rank_at ranks b < rank_at ranks a

-- rules have one list of ranks
abbrev pub RanksAreUnique : Type 0
RanksAreUnique = (count : ℕ) (rules : List Rule) (ranks others : List ℕ) → AreDeclared count rules → AreRanks count rules ranks → AreRanks count rules others → ranks ≡ others

-- what an attribute reaches is found by as many mentions, one after another, as its rank says
abbrev pub ReachIsFound : Type 0
ReachIsFound = (count : ℕ) (rules : List Rule) (ranks : List ℕ) → AreDeclared count rules → AreRanks count rules ranks
    → (a b : AttrId) → Contains (reach rules (rank_at ranks a) a) b ↔ Reaches rules a b

-- what the rules of reached attributes mention is reached
abbrev pub ReachIsClosed : Type 0
ReachIsClosed = (count : ℕ) (rules : List Rule) (ranks : List ℕ) → AreDeclared count rules → AreRanks count rules ranks
    → (a b c : AttrId) → Contains (reach rules (rank_at ranks a) a) b → Contains (mentions_of (rule_of rules b)) c → Contains (reach rules (rank_at ranks a) a) c
