-- Trees that stand for quantifiers over an inferred relationship, in every rule of a rulebase.
use Rattle.std.specs.Prelude.{ℕ, List, [], ◌∷◌, Contains}
use Rattle.opa_model.specs.declared.ids.RelId.{RelId}
use Rattle.opa_cells.specs.declared.instance.InstanceId.{InstanceId}
use Rattle.opa_tree.specs.declared.kinds.Quant.{Quant}
use Rattle.opa_tree.specs.declared.kinds.Quant.TheVariants as quant
use Rattle.opa_tree.specs.declared.expr.Expr.{Expr}
use Rattle.opa_tree.specs.declared.expr.Expr.TheVariants as expr
use Rattle.opa_tree.specs.declared.rulebase.Rulebase.{Rulebase}
use Rattle.opa_tree.specs.declared.rules.Rule.{Rule}
use Rattle.opa_case.specs.Cases.{CaseView}
use Rattle.opa_case.specs.Shapes.{shape_of}
use Rattle.opa_mean.specs.Rulebases.{IsOf}
use Rattle.opa_mean.specs.Kinds.Membership.{Setting, CountsAlone}
use Rattle.opa_mean.specs.Kinds.Conditions.{HasWithin}
use Rattle.opa_mean.specs.Kinds.Laws.{values_of}

-- a tree over a listed relation stands for a quantifier over those of its instances for which the member tree is true
pub data StandsFor (every : RelId) (member : Expr) : Quant → List Expr → Expr → Type 0 where
  for_all : (x : Expr) → StandsFor every member quant.ForAll (x ∷ []) (expr.Over quant.ForAll every (expr.Any (expr.Not member ∷ x ∷ []) ∷ []))
  exists : (x : Expr) → StandsFor every member quant.Exists (x ∷ []) (expr.Over quant.Exists every (expr.All (member ∷ x ∷ []) ∷ []))
  count : StandsFor every member quant.Count [] (expr.Over quant.CountIf every (member ∷ []))
  count_if : (x : Expr) → StandsFor every member quant.CountIf (x ∷ []) (expr.Over quant.CountIf every (expr.All (member ∷ x ∷ []) ∷ []))
  sum : (x : Expr) → StandsFor every member quant.Sum (x ∷ []) (expr.Over quant.SumIf every (x ∷ member ∷ []))
  sum_if : (n x : Expr) → StandsFor every member quant.SumIf (n ∷ x ∷ []) (expr.Over quant.SumIf every (n ∷ expr.All (member ∷ x ∷ []) ∷ []))

-- a listed relation and a member tree, at a place over the values of a case
abbrev pub setting_of : Rulebase → CaseView → RelId → Expr → List InstanceId → ℕ → Setting
setting_of r c every member enclosing d = record { shape = shape_of r.model; look = values_of r c; every = every; member = member; enclosing = enclosing; day = d }

-- over every case that fits, each tree in a rule that stands for a quantifier over an inferred relationship counts its members alone
abbrev pub MembershipsCount : Rulebase → Type 0
MembershipsCount r = (c : CaseView) → IsOf r c → (rule : Rule) → Contains r.rules rule → (e : Expr) → HasWithin rule.expr e
    → (every : RelId) (member : Expr) (q : Quant) (operands : List Expr) → StandsFor every member q operands e
    → (enclosing : List InstanceId) (d : ℕ) → CountsAlone (setting_of r c every member enclosing d) e q operands
