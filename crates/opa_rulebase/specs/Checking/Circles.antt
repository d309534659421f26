-- Circles of rules, and what is left when all that mentions nothing is taken away.
use Rattle.std.specs.Prelude.{ℕ, zero, suc, ◌≡◌, ◌<◌, Bool, true, false, List, [], ◌∷◌, ◌++◌, Some, All, Contains, if◌then◌else◌}
use Rattle.std.specs.List.{list_any}
use Rattle.opa_model.specs.declared.ids.AttrId.{AttrId}
use Rattle.opa_tree.specs.declared.faults.RbFault.{RbFault}
use Rattle.opa_tree.specs.declared.faults.RbKind.TheVariants.{Cycle}
use Rattle.opa_tree.specs.declared.rules.Rule.{Rule}
use Rattle.opa_tree.specs.Mentions.{is_attr}
use Rattle.opa_tree.specs.Ranks.{mentions_of}
use Rattle.opa_tree.specs.Rules.{rule_of}

-- In each round the attributes that mention none of those left are taken away; whether one is left after so many rounds.
unfoldable pub stays : List Rule → ℕ → AttrId → Bool
stays rules zero a = true
stays rules (suc n) a = list_any (stays rules n) (mentions_of (rule_of rules a))

-- it is never taken away
abbrev pub IsLeft : List Rule → AttrId → Type 0
IsLeft rules a = (n : ℕ) → stays rules n a ≡ true

-- it is taken away in some round
abbrev pub IsTaken : List Rule → AttrId → Type 0
IsTaken rules a = (n : ℕ) × (stays rules n a ≡ false)

-- the first mention that is left
pub record IsFirstLeft (rules : List Rule) (a b : AttrId) : Type 0 where
  pub before : List AttrId
  pub after : List AttrId
  pub mentioned : mentions_of (rule_of rules a) ≡ before ++ b ∷ after
  pub left : IsLeft rules b
  pub taken : All (IsTaken rules) before

-- the part of a walk from the first visit of an attribute on
abbrev pub from_visit : AttrId → List AttrId → List AttrId
from_visit a [] = []
from_visit a (b ∷ walk) = if is_attr a b then b ∷ walk else from_visit a walk

-- A walk that came to an attribute goes on to the first mention that is left, until an attribute comes again; the circle
-- is the walk from its first visit on.
pub data Circles (rules : List Rule) : List AttrId → AttrId → List AttrId → Type 0 where
  again : (walk : List AttrId) (a : AttrId) → Contains walk a → Circles rules walk a (from_visit a walk)
  goes_on : (walk circle : List AttrId) (a b : AttrId) → (Contains walk a → ⊥) → IsFirstLeft rules a b → Circles rules (walk ++ a ∷ []) b circle → Circles rules walk a circle

-- the least attribute that is left
pub record IsLeastLeft (rules : List Rule) (a : AttrId) : Type 0 where
  pub left : IsLeft rules a
  pub others : (b : AttrId) → b.0 < a.0 → IsTaken rules b

-- the rules have a circle, told at the line of the rule of its first attribute
pub record HasCircle (rules : List Rule) (fault : RbFault) : Type 0 where
  pub start : AttrId
  pub least : IsLeastLeft rules start
  pub circle : Circles rules [] start fault.cycle
  pub first : AttrId
  pub more : List AttrId
  pub begins : fault.cycle ≡ first ∷ more
  pub rule : Rule
  pub of_first : rule_of rules first ≡ Some rule
  pub file : fault.file ≡ rule.file
  pub line : fault.line ≡ rule.line
  pub kind : fault.kind ≡ Cycle
