-- The faults of rules, but for circles.
use Rattle.std.specs.Prelude.{ℕ, ◌≡◌, ◌<◌, Some, length, slice_get, Bool, true, false, ◌&&◌, List, [], ◌∷◌, ◌++◌, flat_map, is_some, if◌then◌else◌}
use Rattle.opa_model.specs.declared.ids.AttrId.{AttrId}
use Rattle.opa_model.specs.declared.lists.Lists.{Lists}
use Rattle.opa_tree.specs.declared.faults.RbFault.{RbFault}
use Rattle.opa_tree.specs.declared.faults.RbKind.{RbKind}
use Rattle.opa_tree.specs.declared.faults.RbKind.TheVariants.{Scope, Kind, Twice}
use Rattle.opa_tree.specs.declared.rules.Rule.{Rule}
use Rattle.opa_tree.specs.Accepted.{concludes_bool}
use Rattle.opa_tree.specs.Kinds.{rule_has_kind}
use Rattle.opa_tree.specs.Rules.{rule_of}
use Rattle.opa_tree.specs.Scopes.{rule_is_reached}

-- a fault of a rule stands at its line
abbrev pub fault_at : RbKind → Rule → RbFault
fault_at kind rule = record { file = rule.file; line = rule.line; kind = kind; cycle = [] }

-- the fault, unless the test holds
abbrev pub unless : Bool → RbFault → List RbFault
unless test fault = if test then [] else fault ∷ []

-- the fault, where the test holds
abbrev pub when : Bool → RbFault → List RbFault
when test fault = if test then fault ∷ [] else []

-- an attribute or relation that no enclosing instance reaches, and a kind that isn't allowed
abbrev pub own_faults : Lists → Rule → List RbFault
own_faults m rule = unless (rule_is_reached m rule) (fault_at Scope rule) ++ unless (rule_has_kind m rule && concludes_bool m rule) (fault_at Kind rule)

-- the rules that conclude what an earlier one concludes; those before are given
abbrev pub second_faults : List Rule → List Rule → List RbFault
second_faults before [] = []
second_faults before (rule ∷ rules) = when (is_some (rule_of before rule.attr)) (fault_at Twice rule) ++ second_faults (before ++ rule ∷ []) rules

abbrev pub rule_faults : Lists → List Rule → List RbFault
rule_faults m rules = flat_map (own_faults m) rules ++ second_faults [] rules

-- whether each of so many attributes is concluded
pub record AreMarks (count : ℕ) (rules : List Rule) (marks : List Bool) : Type 0 where
  pub for_each : length marks ≡ count
  pub by_rules : (a : AttrId) → a.0 < count → slice_get marks a.0 ≡ Some (is_some (rule_of rules a))
