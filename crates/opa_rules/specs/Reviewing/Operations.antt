-- The operations of a tree.
use Rattle.std.specs.Prelude.{Bool, true, false, List, [], ◌∷◌, ◌++◌, flat_map}
use Rattle.std.specs.List.{list_any}
use Rattle.opa_tree.specs.declared.kinds.OpKind.{OpKind}
use Rattle.opa_tree.specs.declared.kinds.OpKind.TheVariants as kind
use Rattle.opa_tree.specs.declared.expr.Expr.{Expr}
use Rattle.opa_tree.specs.declared.expr.Row.{Row}
use Rattle.opa_tree.specs.declared.expr.Expr.TheOpen.{Expr-F, Row-F, Const, Attr, All, Any, Not, Op, Certain, Known, Over, Window, Rolling, Table}
use Rattle.opa_tree.specs.declared.expr.Expr.TheFolds.{fold-Expr}

-- of those of its parts
abbrev pub operations_step : Expr-F (List OpKind) (List OpKind) → List OpKind
operations_step (Const v) = []
operations_step (Attr a) = []
operations_step (All xs) = flat_map (λ x. x) xs
operations_step (Any xs) = flat_map (λ x. x) xs
operations_step (Not x) = x
operations_step (Op k xs) = k ∷ flat_map (λ x. x) xs
operations_step (Certain x) = x
operations_step (Known x) = x
operations_step (Over q r xs) = flat_map (λ x. x) xs
operations_step (Window k xs) = flat_map (λ x. x) xs
operations_step (Rolling b n x) = x
operations_step (Table rows last) = flat_map (λ x. x) rows ++ last

-- a row's condition comes before its value
abbrev pub operations_of_row : Row-F (List OpKind) (List OpKind) → List OpKind
operations_of_row row = row.cond ++ row.value

-- the operations of a tree in written order, each before its operands
unfoldable pub operations : Expr → List OpKind
operations = fold-Expr (List OpKind) (List OpKind) operations_step operations_of_row

abbrev pub row_operations : Row → List OpKind
row_operations row = operations row.cond ++ operations row.value

abbrev pub is_product : OpKind → Bool
is_product kind.Mul = true
is_product kind.Div = true
is_product _ = false

-- something is multiplied or divided
abbrev pub multiplies : Expr → Bool
multiplies expr = list_any is_product (operations expr)
