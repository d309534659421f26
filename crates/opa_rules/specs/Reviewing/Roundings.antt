-- Currencies that are computed and rounded, and that further ones are concluded from.
use Rattle.std.specs.Prelude.{Bool, true, false, not, ◌&&◌, List, [], ◌∷◌, flat_map, Option, Some, None, if◌then◌else◌}
use Rattle.std.specs.List.{list_any}
use Rattle.opa_model.specs.declared.ids.AttrId.{AttrId}
use Rattle.opa_model.specs.declared.lists.Lists.{Lists}
use Rattle.opa_model.specs.declared.things.Attribute.{Attribute}
use Rattle.opa_model.specs.declared.things.Kind.{Kind}
use Rattle.opa_model.specs.declared.things.Kind.TheVariants as kind
use Rattle.opa_model.specs.Lookups.{attribute_at}
use Rattle.opa_tree.specs.Mentions.{is_attr, mentions}
use Rattle.opa_tree.specs.declared.rulebase.Rulebase.{Rulebase}
use Rattle.opa_tree.specs.declared.rules.Rule.{Rule}
use Rattle.opa_rules.specs.declared.reviewing.finding.Finding.{Finding}
use Rattle.opa_rules.specs.declared.reviewing.finding.Finding.TheVariants as finding
use Rattle.opa_rules.specs.Reviewing.Operations.{multiplies}

abbrev pub is_currency : Kind → Bool
is_currency kind.Bool = false
is_currency kind.Number = false
is_currency kind.Currency = true
is_currency kind.Words = false
is_currency kind.Date = false

abbrev pub is_currency_by : Option Attribute → Bool
is_currency_by None = false
is_currency_by (Some a) = is_currency a.kind

abbrev pub is_currency_of : Lists → AttrId → Bool
is_currency_of m a = is_currency_by (attribute_at m a)

abbrev pub is_goal : Lists → AttrId → Bool
is_goal m a = list_any (is_attr a) m.goals

-- what the rule of a currency mentions
abbrev pub used_by : Lists → Rule → List AttrId
used_by m rule = if is_currency_of m rule.attr then mentions rule.expr else []

-- what the rules of currencies mention, one rule after another
abbrev pub used : Rulebase → List AttrId
used base = flat_map (used_by base.model) base.rules

-- a currency that is no goal, and is among these
abbrev pub is_between : Lists → List AttrId → AttrId → Bool
is_between m attrs a = is_currency_of m a && not (is_goal m a) && list_any (is_attr a) attrs

-- whose value may have more than two decimals before it is rounded, since something is multiplied or divided
abbrev pub is_rounded : Lists → List AttrId → Rule → Bool
is_rounded m attrs rule = is_between m attrs rule.attr && multiplies rule.expr

abbrev pub rounding : Rule → Finding
rounding rule = finding.Rounding (record { attr = rule.attr; file = rule.file; line = rule.line })

abbrev pub rounding_of : Lists → List AttrId → Rule → List Finding
rounding_of m attrs rule = if is_rounded m attrs rule then rounding rule ∷ [] else []

abbrev pub roundings : Rulebase → List Finding
roundings base = flat_map (rounding_of base.model (used base)) base.rules
