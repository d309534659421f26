-- The relations that a tree goes over.
use Rattle.std.specs.Prelude.{Bool, List, [], ◌∷◌, ◌++◌, ◌==◌, flat_map}
use Rattle.opa_model.specs.declared.ids.RelId.{RelId}
use Rattle.opa_tree.specs.FirstOnes.{first_ones}
use Rattle.opa_tree.specs.declared.expr.Expr.{Expr}
use Rattle.opa_tree.specs.declared.expr.Row.{Row}
use Rattle.opa_tree.specs.declared.expr.Expr.TheOpen.{Expr-F, Row-F, Const, Attr, All, Any, Not, Op, Certain, Known, Over, Window, Rolling, Table}
use Rattle.opa_tree.specs.declared.expr.Expr.TheFolds.{fold-Expr}

-- of what the parts go over, in written order
abbrev pub ranged_step : Expr-F (List RelId) (List RelId) → List RelId
ranged_step (Const v) = []
ranged_step (Attr a) = []
ranged_step (All xs) = flat_map (λ x. x) xs
ranged_step (Any xs) = flat_map (λ x. x) xs
ranged_step (Not x) = x
ranged_step (Op k xs) = flat_map (λ x. x) xs
ranged_step (Certain x) = x
ranged_step (Known x) = x
ranged_step (Over q r xs) = r ∷ flat_map (λ x. x) xs
ranged_step (Window k xs) = flat_map (λ x. x) xs
ranged_step (Rolling b n x) = x
ranged_step (Table rows last) = flat_map (λ x. x) rows ++ last

-- a row's condition comes before its value
abbrev pub ranged_row : Row-F (List RelId) (List RelId) → List RelId
ranged_row row = row.cond ++ row.value

-- the relations of a tree in written order, as often as they stand there
unfoldable pub ranged : Expr → List RelId
ranged = fold-Expr (List RelId) (List RelId) ranged_step ranged_row

abbrev pub row_ranged : Row → List RelId
row_ranged row = ranged row.cond ++ ranged row.value

abbrev pub is_rel : RelId → RelId → Bool
is_rel a b = a.0 == b.0

-- the relations of a tree in written order, each once
abbrev pub ranges : Expr → List RelId
ranges expr = first_ones is_rel (ranged expr)
