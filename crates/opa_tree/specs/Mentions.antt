-- The attributes that a tree mentions.
use Rattle.std.specs.Prelude.{Bool, List, [], ◌∷◌, ◌++◌, ◌==◌, flat_map}
use Rattle.opa_model.specs.declared.ids.AttrId.{AttrId}
use Rattle.opa_tree.specs.FirstOnes.{first_ones}
use Rattle.opa_tree.specs.declared.expr.Expr.{Expr}
use Rattle.opa_tree.specs.declared.expr.Row.{Row}
use Rattle.opa_tree.specs.declared.expr.Expr.TheOpen.{Expr-F, Row-F, Const, Attr, All, Any, Not, Op, Certain, Known, Over, Window, Rolling, Table}
use Rattle.opa_tree.specs.declared.expr.Expr.TheFolds.{fold-Expr}

-- of what the parts mention, in written order
abbrev pub mentioned_step : Expr-F (List AttrId) (List AttrId) → List AttrId
mentioned_step (Const v) = []
mentioned_step (Attr attr) = attr ∷ []
mentioned_step (All xs) = flat_map (λ x. x) xs
mentioned_step (Any xs) = flat_map (λ x. x) xs
mentioned_step (Not x) = x
mentioned_step (Op k xs) = flat_map (λ x. x) xs
mentioned_step (Certain x) = x
mentioned_step (Known x) = x
mentioned_step (Over q r xs) = flat_map (λ x. x) xs
mentioned_step (Window k xs) = flat_map (λ x. x) xs
mentioned_step (Rolling b n x) = x
mentioned_step (Table rows last) = flat_map (λ x. x) rows ++ last

-- a row's condition comes before its value
abbrev pub mentioned_row : Row-F (List AttrId) (List AttrId) → List AttrId
mentioned_row row = row.cond ++ row.value

-- the attributes of a tree in written order, as often as they stand there
unfoldable pub mentioned : Expr → List AttrId
mentioned = fold-Expr (List AttrId) (List AttrId) mentioned_step mentioned_row

abbrev pub row_mentioned : Row → List AttrId
row_mentioned row = mentioned row.cond ++ mentioned row.value

abbrev pub is_attr : AttrId → AttrId → Bool
is_attr a b = a.0 == b.0

-- the attributes of a tree in written order, each once
abbrev pub mentions : Expr → List AttrId
mentions expr = first_ones is_attr (mentioned expr)
