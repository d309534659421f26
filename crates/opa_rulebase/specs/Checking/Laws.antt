-- What holds of circles, of refusals and of ranks.
use Rattle.std.specs.Prelude.{ℕ, ◌≡◌, List, [], ◌∷◌, Contains}
use Rattle.opa_model.specs.declared.ids.AttrId.{AttrId}
use Rattle.opa_model.specs.declared.lists.Lists.{Lists}
use Rattle.opa_tree.specs.declared.faults.RbFault.{RbFault}
use Rattle.opa_tree.specs.declared.rules.Rule.{Rule}
use Rattle.opa_tree.specs.Accepted.{AreAccepted}
use Rattle.opa_tree.specs.Laws.{AreDeclared}
use Rattle.opa_tree.specs.Ranks.{mentions_of, AreRanks}
use Rattle.opa_tree.specs.Rules.{rule_of}
use Rattle.opa_rulebase.specs.Checking.Circles.{Circles, IsTaken}
use Rattle.opa_rulebase.specs.Checking.Refused.{IsRefused}

-- each mentions the next one, and the last mentions the attribute
abbrev pub LeadsTo : List Rule → List AttrId → AttrId → Type 0
LeadsTo rules [] a = Unit {0}
LeadsTo rules (b ∷ []) a = Contains (mentions_of (rule_of rules b)) a
LeadsTo rules (b ∷ c ∷ walk) a = Contains (mentions_of (rule_of rules b)) c × LeadsTo rules (c ∷ walk) a

-- each mentions the next one, and the last mentions the first
pub record IsRound (rules : List Rule) (circle : List AttrId) : Type 0 where
  pub first : AttrId
  pub more : List AttrId
  pub begins : circle ≡ first ∷ more
  pub leads : LeadsTo rules circle first

-- a circle that is told is one
abbrev pub CirclesAreRound : Type 0
CirclesAreRound = (rules : List Rule) (start : AttrId) (circle : List AttrId) → Circles rules [] start circle → IsRound rules circle

-- accepted rules aren't refused
abbrev pub AcceptedAreNotRefused : Type 0
AcceptedAreNotRefused = (m : Lists) (rules : List Rule) (fault : RbFault) → AreAccepted m rules → IsRefused m rules fault → ⊥

-- rules have ranks where each attribute is taken away
abbrev pub RanksExist : Type 0
RanksExist = (count : ℕ) (rules : List Rule) → AreDeclared count rules → ((a : AttrId) → IsTaken rules a) → (ranks : List ℕ) × AreRanks count rules ranks
