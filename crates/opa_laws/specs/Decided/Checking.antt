-- Rules that are checked have at most one fault, and those of a rulebase have none.
use Rattle.std.specs.Prelude.{◌≡◌, List, []}
use Rattle.opa_model.specs.declared.ids.AttrId.{AttrId}
use Rattle.opa_model.specs.declared.lists.Lists.{Lists}
use Rattle.opa_tree.specs.declared.faults.RbFault.{RbFault}
use Rattle.opa_tree.specs.declared.rulebase.Rulebase.{Rulebase}
use Rattle.opa_tree.specs.declared.rules.Rule.{Rule}
use Rattle.opa_rulebase.specs.Checking.Circles.{Circles}
use Rattle.opa_rulebase.specs.Checking.Refused.{IsRefused}

-- an attribute leads to at most one circle
abbrev pub OneCircle : Type 0
OneCircle = (rules : List Rule) (start : AttrId) (circle other : List AttrId) → Circles rules [] start circle → Circles rules [] start other → circle ≡ other

-- rules are refused for at most one fault
abbrev pub OneCheckFault : Type 0
OneCheckFault = (m : Lists) (rules : List Rule) (f g : RbFault) → IsRefused m rules f → IsRefused m rules g → f ≡ g

-- the rules of a rulebase aren't refused
abbrev pub RulebasesAreNotRefused : Type 0
RulebasesAreNotRefused = (base : Rulebase) (fault : RbFault) → IsRefused base.model base.rules fault → ⊥
