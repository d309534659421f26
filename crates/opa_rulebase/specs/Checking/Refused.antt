-- Why rules are refused.
use Rattle.std.specs.Prelude.{◌≡◌, List, Option, None, Some}
use Rattle.opa_model.specs.declared.lists.Lists.{Lists}
use Rattle.opa_tree.specs.declared.faults.RbFault.{RbFault}
use Rattle.opa_tree.specs.declared.rules.Rule.{Rule}
use Rattle.opa_tree.specs.FirstFaults.{first_fault}
use Rattle.opa_rulebase.specs.Checking.Circles.{HasCircle}
use Rattle.opa_rulebase.specs.Checking.Faults.{rule_faults}

-- the first fault of the rules; where they have none, their circle
abbrev pub IsRefusedBy : Option RbFault → List Rule → RbFault → Type 0
IsRefusedBy (Some first) rules fault = fault ≡ first
IsRefusedBy None rules fault = HasCircle rules fault

abbrev pub IsRefused : Lists → List Rule → RbFault → Type 0
IsRefused m rules fault = IsRefusedBy (first_fault (rule_faults m rules)) rules fault
