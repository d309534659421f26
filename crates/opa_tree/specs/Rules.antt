-- The rule of an attribute.
use Rattle.std.specs.Prelude.{List, Option, Bool, ◌==◌, find}
use Rattle.opa_model.specs.declared.ids.AttrId.{AttrId}
use Rattle.opa_tree.specs.declared.rules.Rule.{Rule}

abbrev pub concludes : AttrId → Rule → Bool
concludes attr rule = rule.attr.0 == attr.0

-- the first rule that concludes the attribute
abbrev pub rule_of : List Rule → AttrId → Option Rule
rule_of rules attr = find (concludes attr) rules
