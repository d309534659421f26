-- The code of a rule.
use Rattle.std.specs.Prelude.{◌≡◌, ℕ, Bool, ◌==◌, List, Option, Some, find, slice_get}
use Rattle.std.specs.Option.{option_and_then}
use Rattle.opa_model.specs.declared.ids.AttrId.{AttrId}
use Rattle.opa_case.specs.Shapes.{Shape}
use Rattle.opa_tree.specs.declared.rules.Rule.{Rule}
use Rattle.opa_mean.specs.Mean.{is_money}
use Rattle.opa_code.specs.Codes.{code}
use Rattle.opa_code.specs.declared.rule_code.RuleCode.{RuleCode}

abbrev pub coded : Shape → Rule → RuleCode
coded s rule = record { attr = rule.attr; money = is_money (s.attribute rule.attr).kind; nodes = code s rule.expr }

abbrev pub is_for : AttrId → RuleCode → Bool
is_for attr code = code.attr.0 == attr.0

-- each of the first attributes has the place of the code of its rule, and no place where it has no rule
pub record AreCodesPlaced (codes : List RuleCode) (places : List (Option ℕ)) : Type 0 where
  pub right : (n : ℕ) (o : Option ℕ) → slice_get places n ≡ Some o → option_and_then (slice_get codes) o ≡ find (is_for (record { 0 = n })) codes
