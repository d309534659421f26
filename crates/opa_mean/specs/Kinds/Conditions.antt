-- Trees that stand in other trees, and which of them are conditions.
use Rattle.std.specs.Prelude.{ℕ, ◌≡◌, Bool, List, [], ◌∷◌, Contains}
use Rattle.opa_model.specs.declared.ids.RelId.{RelId}
use Rattle.opa_tree.specs.declared.kinds.OpKind.{OpKind}
use Rattle.opa_tree.specs.declared.kinds.Quant.{Quant}
use Rattle.opa_tree.specs.declared.kinds.Quant.TheVariants as quant
use Rattle.opa_tree.specs.declared.kinds.WinKind.{WinKind}
use Rattle.opa_tree.specs.declared.expr.Expr.{Expr}
use Rattle.opa_tree.specs.declared.expr.Expr.TheVariants as expr
use Rattle.opa_tree.specs.declared.expr.Row.{Row}

-- a tree is an operand of another, or stands in a row of a table
pub data IsPartOf (x : Expr) : Expr → Type 0 where
  of_all : (es : List Expr) → Contains es x → IsPartOf x (expr.All es)
  of_any : (es : List Expr) → Contains es x → IsPartOf x (expr.Any es)
  of_not : IsPartOf x (expr.Not x)
  of_operation : (k : OpKind) (es : List Expr) → Contains es x → IsPartOf x (expr.Op k es)
  of_certain : IsPartOf x (expr.Certain x)
  of_known : IsPartOf x (expr.Known x)
  of_quantifier : (q : Quant) (r : RelId) (es : List Expr) → Contains es x → IsPartOf x (expr.Over q r es)
  of_window : (k : WinKind) (es : List Expr) → Contains es x → IsPartOf x (expr.Window k es)
  of_rolling : (always : Bool) (n : ℕ) → IsPartOf x (expr.Rolling always n x)
  row_condition : (rows : List Row) (last : Expr) (row : Row) → Contains rows row → row.cond ≡ x → IsPartOf x (expr.Table rows last)
  row_value : (rows : List Row) (last : Expr) (row : Row) → Contains rows row → row.value ≡ x → IsPartOf x (expr.Table rows last)
  last_value : (rows : List Row) → IsPartOf x (expr.Table rows x)

-- a tree has itself within it, and each part of what it has within it
pub data HasWithin (e : Expr) : Expr → Type 0 where
  itself : HasWithin e e
  part : (y x : Expr) → HasWithin e y → IsPartOf x y → HasWithin e x

-- a tree is what a quantifier over truth values, or all, any and not, take of another
pub data IsConditionOf (x : Expr) : Expr → Type 0 where
  for_all : (r : RelId) → IsConditionOf x (expr.Over quant.ForAll r (x ∷ []))
  exists : (r : RelId) → IsConditionOf x (expr.Over quant.Exists r (x ∷ []))
  count_if : (r : RelId) → IsConditionOf x (expr.Over quant.CountIf r (x ∷ []))
  sum_if : (r : RelId) (number : Expr) → IsConditionOf x (expr.Over quant.SumIf r (number ∷ x ∷ []))
  of_all : (es : List Expr) → Contains es x → IsConditionOf x (expr.All es)
  of_any : (es : List Expr) → Contains es x → IsConditionOf x (expr.Any es)
  of_not : IsConditionOf x (expr.Not x)
