-- What holds of a comparison in no case.
use Rattle.std.specs.Prelude.{ℕ, ◌≡◌, true, false, List, [], ◌∷◌, Ok, Contains}
use Rattle.std.specs.List.{list_all}
use Rattle.opa_value.specs.declared.value.Value.{Value}
use Rattle.opa_value.specs.declared.value.Value.TheVariants.{Bool as Truth, Num}
use Rattle.opa_model.specs.declared.ids.AttrId.{AttrId}
use Rattle.opa_cells.specs.declared.instance.InstanceId.{InstanceId}
use Rattle.opa_case.specs.declared.change.ChangeCommand.{ChangeCommand}
use Rattle.opa_case.specs.Cases.{CaseView, Answer, no_case}
use Rattle.opa_case.specs.Fits.{Answered}
use Rattle.opa_case.specs.Shapes.{shape_of, attribute_or}
use Rattle.opa_case.specs.Steps.{in_bounds, step}
use Rattle.opa_tree.specs.declared.expr.Expr.{Expr}
use Rattle.opa_tree.specs.declared.expr.Expr.TheVariants as V
use Rattle.opa_tree.specs.declared.rulebase.Rulebase.{Rulebase}
use Rattle.opa_tree.specs.declared.rules.Rule.{Rule}
use Rattle.opa_mean.specs.Meaning.{value}
use Rattle.opa_mean.specs.Rulebases.{IsOf}
use Rattle.opa_mean.specs.Kinds.Conditions.{HasWithin}
use Rattle.opa_mean.specs.Kinds.Laws.{values_of}
use Rattle.opa_rules.specs.declared.reviewing.finding.Compared.{Compared}
use Rattle.opa_rules.specs.declared.reviewing.finding.Comparison.{Comparison}
use Rattle.opa_rules.specs.declared.reviewing.finding.Operand.{Operand}
use Rattle.opa_rules.specs.declared.reviewing.finding.Operand.TheVariants as operand
use Rattle.opa_rules.specs.declared.reviewing.finding.Verdict.{Verdict}
use Rattle.opa_rules.specs.declared.reviewing.finding.Verdict.TheVariants as verdict

-- each answer is within the bounds of its attribute, and has no more decimals
abbrev pub KeepsBounds : Rulebase → CaseView → Type 0
KeepsBounds base c = (a : AttrId) (i : InstanceId) (line : Answer) → Answered c.answers a i line → list_all (λ p. in_bounds (attribute_or base.model a) p.1) line ≡ true

-- The empty case keeps the bounds, and so does a case that keeps them after a change that isn't refused.
abbrev pub BoundsAreKept : Type 0
BoundsAreKept = (base : Rulebase) → KeepsBounds base no_case × ((c c' : CaseView) (command : ChangeCommand) → KeepsBounds base c → step (shape_of base.model) base.ruled c command ≡ Ok c' → KeepsBounds base c')

-- This holds of the values of trees in no case that fits and keeps the bounds, whatever instances enclose them, at no day.
abbrev pub InNoCase : Rulebase → ((Expr → Value) → Type 0) → Type 0
InNoCase base Holds = (c : CaseView) → IsOf base c → KeepsBounds base c → (enclosing : List InstanceId) (d : ℕ) → ¬ Holds (λ e. value (shape_of base.model) (values_of base c) e enclosing d)

abbrev pub side_tree : Operand → Expr
side_tree (operand.Number n) = V.Const (Num n)
side_tree (operand.Attr a) = V.Attr a

abbrev pub tree_of : Comparison → Expr
tree_of c = V.Op c.operation (side_tree c.left ∷ side_tree c.right ∷ [])

abbrev pub IsJudged : Rulebase → Comparison → Verdict → Type 0
IsJudged base c verdict.NeverTrue = InNoCase base (λ value_of. value_of (tree_of c) ≡ Truth true)
IsJudged base c verdict.NeverFalse = InNoCase base (λ value_of. value_of (tree_of c) ≡ Truth false)
IsJudged base c verdict.NeverEqual = InNoCase base (λ value_of. value_of (side_tree c.left) ≡ value_of (side_tree c.right))

-- The comparison stands in the tree of this rule of the rulebase, and what is said of it is so.
pub record IsCompared (base : Rulebase) (f : Compared) : Type 0 where
  pub rule : Rule
  pub of_base : Contains base.rules rule
  pub concludes : rule.attr ≡ f.attr
  pub in_file : rule.file ≡ f.file
  pub at_line : rule.line ≡ f.line
  pub stands : HasWithin rule.expr (tree_of f.comparison)
  pub is_so : IsJudged base f.comparison f.verdict
