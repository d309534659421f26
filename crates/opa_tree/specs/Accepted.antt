-- Accepted rules.
use Rattle.std.specs.Prelude.{ℕ, ◌≢◌, ◌<◌, Bool, true, false, List, length, IsTrue, All, AllPairs, if◌then◌else◌}
use Rattle.std.specs.Option.{option_map_or}
use Rattle.opa_model.specs.declared.things.Kind.TheVariants as kind
use Rattle.opa_model.specs.declared.lists.Lists.{Lists}
use Rattle.opa_model.specs.Lookups.{attribute_at}
use Rattle.opa_model.specs.Models.{HasAttribute}
use Rattle.opa_tree.specs.declared.rules.Rule.{Rule}
use Rattle.opa_tree.specs.Kinds.{is_kind, rule_has_kind}
use Rattle.opa_tree.specs.Ranks.{AreRanks}
use Rattle.opa_tree.specs.Scopes.{rule_is_reached}
use Rattle.opa_tree.specs.Trees.{HasForm, IsShallow}

-- a rule that is written by "if" concludes a bool
abbrev pub concludes_bool : Lists → Rule → Bool
concludes_bool m rule = if rule.by_if then option_map_or (λ x. is_kind kind.Bool x.kind) (attribute_at m rule.attr) false else true

-- the rules meet all that accepted rules do, but for their ranks
pub record AreSound (m : Lists) (rules : List Rule) : Type 0 where
  pub attributes_declared : All (λ r. HasAttribute m r.attr) rules
  pub reached : All (λ r. IsTrue (rule_is_reached m r)) rules
  pub of_kinds : All (λ r. IsTrue (rule_has_kind m r)) rules
  pub bools_by_if : All (λ r. IsTrue (concludes_bool m r)) rules
  pub one_each : AllPairs (λ r s. r.attr ≢ s.attr) rules

-- the rules are accepted
pub record AreAccepted (m : Lists) (rules : List Rule) : Type 0 where
  pub sound : AreSound m rules
  pub ranks : List ℕ
  pub ranked : AreRanks (length m.attributes) rules ranks

-- each rule's tree has its form
abbrev pub HaveForm : List Rule → Type 0
HaveForm rules = All (λ r. HasForm r.expr) rules

-- each rule stands in one of so many files
abbrev pub AreFiled : ℕ → List Rule → Type 0
AreFiled files rules = All (λ r. r.file < files) rules

-- no rule's tree is too deep
abbrev pub AreShallow : List Rule → Type 0
AreShallow rules = All (λ r. IsShallow r.expr) rules
