-- Rules with rows whose last value is the literal `uncertain`.
use Rattle.std.specs.Prelude.{Bool, false, List, [], ◌∷◌, if◌then◌else◌}
use Rattle.opa_value.specs.declared.value.Value.TheVariants.{Uncertain}
use Rattle.opa_tree.specs.declared.expr.Expr.{Expr}
use Rattle.opa_tree.specs.declared.expr.Row.{Row}
use Rattle.opa_tree.specs.declared.expr.Expr.TheOpen.{Expr-F, Table}
use Rattle.opa_tree.specs.declared.expr.Expr.TheVariants as V
use Rattle.opa_tree.specs.declared.expr.Expr.TheViews.{out-Expr}
use Rattle.opa_tree.specs.declared.rules.Rule.{Rule}
use Rattle.opa_rules.specs.declared.reviewing.finding.Finding.{Finding}
use Rattle.opa_rules.specs.declared.reviewing.finding.Finding.TheVariants as finding
use Rattle.opa_rules.specs.Reviewing.Trees.{same_tree}

-- the literal `uncertain`
abbrev pub is_uncertain : Expr → Bool
is_uncertain e = same_tree e (V.Const Uncertain)

abbrev pub ends_by : Expr-F Expr Row → Bool
ends_by (Table rows last) = is_uncertain last
ends_by _ = false

-- a table ends so; another tree doesn't
abbrev pub ends_uncertain : Expr → Bool
ends_uncertain e = ends_by (out-Expr e)

abbrev pub ending : Rule → Finding
ending rule = finding.Ending (record { attr = rule.attr; file = rule.file; line = rule.line })

abbrev pub ending_of : Rule → List Finding
ending_of rule = if ends_uncertain rule.expr then ending rule ∷ [] else []
