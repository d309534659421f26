-- What holds of `For` in every accepted rulebase.
use Rattle.std.specs.Prelude.{◌≡◌, true, Some}
use Rattle.opa_model.specs.declared.ids.AttrId.{AttrId}
use Rattle.opa_case.specs.Shapes.{shape_of}
use Rattle.opa_tree.specs.declared.rulebase.Rulebase.{Rulebase}
use Rattle.opa_tree.specs.declared.rules.Rule.{Rule}
use Rattle.opa_tree.specs.Rules.{rule_of}
use Rattle.opa_verify.specs.Listed.Ones.{is_single}

-- in each rule `For` stands over relations to one alone
abbrev pub AreSingle : Rulebase → Type 0
AreSingle r = (a : AttrId) (rule : Rule) → rule_of r.rules a ≡ Some rule → is_single (shape_of r.model).one rule.expr ≡ true

abbrev pub RulesAreSingle : Type 0
RulesAreSingle = (r : Rulebase) → AreSingle r
