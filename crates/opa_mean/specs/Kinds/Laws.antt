-- What holds of every accepted rulebase, and of every case that fits it.
use Rattle.std.specs.Prelude.{◌≡◌, ℕ, true, List, Some, Contains}
use Rattle.opa_model.specs.declared.ids.AttrId.{AttrId}
use Rattle.opa_model.specs.declared.ids.RelId.{RelId}
use Rattle.opa_model.specs.declared.things.Kind.{Kind}
use Rattle.opa_model.specs.declared.things.Kind.TheVariants as kinds
use Rattle.opa_model.specs.declared.things.Relation.{Relation}
use Rattle.opa_model.specs.Lookups.{relation_at}
use Rattle.opa_cells.specs.declared.instance.InstanceId.{InstanceId}
use Rattle.opa_tree.specs.declared.kinds.Quant.TheVariants as quant
use Rattle.opa_tree.specs.declared.expr.Expr.{Expr}
use Rattle.opa_tree.specs.declared.expr.Expr.TheVariants as expr
use Rattle.opa_tree.specs.declared.rulebase.Rulebase.{Rulebase}
use Rattle.opa_tree.specs.declared.rules.Rule.{Rule}
use Rattle.opa_case.specs.Cases.{CaseView}
use Rattle.opa_case.specs.Shapes.{shape_of, attribute_or}
use Rattle.opa_case.specs.Steps.{has_kind}
use Rattle.opa_mean.specs.Given.{facts_of}
use Rattle.opa_mean.specs.Looks.{Look}
use Rattle.opa_mean.specs.Mean.{look_of}
use Rattle.opa_mean.specs.Meaning.{value}
use Rattle.opa_mean.specs.Rulebases.{IsOf, value_at}
use Rattle.opa_mean.specs.Kinds.Conditions.{HasWithin, IsConditionOf}

abbrev pub kind_of : Rulebase → AttrId → Kind
kind_of r a = (attribute_or r.model a).kind

-- each value is unknown, uncertain, or a plain value of its attribute's kind
abbrev pub ValuesHaveKinds : Type 0
ValuesHaveKinds = (r : Rulebase) (c : CaseView) → IsOf r c → (a : AttrId) (i : InstanceId) (d : ℕ) → has_kind (kind_of r a) (value_at r c a i d) ≡ true

-- what the case gives, beside the values of attributes
abbrev pub values_of : Rulebase → CaseView → Look
values_of r c = look_of (facts_of c) (value_at r c)

-- each condition in a rule is true, false, unknown or uncertain, whatever instances enclose it
abbrev pub ConditionsAreTruths : Type 0
ConditionsAreTruths = (r : Rulebase) (c : CaseView) → IsOf r c
    → (rule : Rule) → Contains r.rules rule → (e x : Expr) → HasWithin rule.expr e → IsConditionOf x e
    → (enclosing : List InstanceId) (d : ℕ) → has_kind kinds.Bool (value (shape_of r.model) (values_of r c) x enclosing d) ≡ true

-- `for` stands over declared relations to one alone
abbrev pub ForStandsToOne : Type 0
ForStandsToOne = (r : Rulebase) (rule : Rule) → Contains r.rules rule → (q : RelId) (es : List Expr) → HasWithin rule.expr (expr.Over quant.For q es)
    → (x : Relation) × (relation_at r.model q ≡ Some x) × (x.one ≡ true)
