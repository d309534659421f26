-- Values, mentions and freedom of a tree, one level at a time.
use Rattle.std.proofs.Common.{◌≡◌, Bool, List}
use Rattle.opa_model.specs.declared.ids.AttrId.{AttrId}
use Rattle.opa_tree.specs.declared.expr.Expr.{Expr}
use Rattle.opa_tree.specs.declared.expr.Row.{Row}
use Rattle.opa_tree.specs.declared.expr.Expr.TheOpen.{Expr-F}
use Rattle.opa_tree.specs.declared.expr.Expr.TheViews.{roll-Expr}
use Rattle.opa_tree.specs.declared.expr.Expr.TheFolds.{fold-Row, fold-roll-Expr, fold_out-Row, map-Expr}
use Rattle.opa_tree.specs.Mentions.{mentioned, mentioned_step, mentioned_row}
use Rattle.opa_case.specs.Shapes.{Shape}
use Rattle.opa_mean.specs.Looks.{Look}
use Rattle.opa_mean.specs.Meaning.{Meaning, RowMeaning, tree_step, row_step, value}
use Rattle.opa_mean.specs.Frees.{free_step, free_row, is_free}

unfoldable pub row_value : Shape → Look → Row → RowMeaning
row_value s l = fold-Row Meaning RowMeaning (tree_step s l) row_step

pub value-roll : (s : Shape) (l : Look) (x : Expr-F Expr Row) → value s l (roll-Expr x) ≡ tree_step s l (map-Expr Expr Row Meaning RowMeaning (value s l) (row_value s l) x)
unfolding value row_value
value-roll s l = fold-roll-Expr Meaning RowMeaning (tree_step s l) row_step

pub row_value-is : (s : Shape) (l : Look) (r : Row) → row_value s l r ≡ record { cond = value s l r.cond; value = value s l r.value }
unfolding value row_value
row_value-is s l r = fold_out-Row Meaning RowMeaning (tree_step s l) row_step r

unfoldable pub row_free : Row → Bool
row_free = fold-Row Bool Bool free_step free_row

pub free-roll : (x : Expr-F Expr Row) → is_free (roll-Expr x) ≡ free_step (map-Expr Expr Row Bool Bool is_free row_free x)
unfolding is_free row_free
free-roll = fold-roll-Expr Bool Bool free_step free_row

pub row_free-is : (r : Row) → row_free r ≡ free_row (record { cond = is_free r.cond; value = is_free r.value })
unfolding row_free is_free
row_free-is r = fold_out-Row Bool Bool free_step free_row r

unfoldable pub row_mentions : Row → List AttrId
row_mentions = fold-Row (List AttrId) (List AttrId) mentioned_step mentioned_row

pub mentioned-roll : (x : Expr-F Expr Row) → mentioned (roll-Expr x) ≡ mentioned_step (map-Expr Expr Row (List AttrId) (List AttrId) mentioned row_mentions x)
unfolding mentioned row_mentions
mentioned-roll = fold-roll-Expr (List AttrId) (List AttrId) mentioned_step mentioned_row

pub row_mentions-is : (r : Row) → row_mentions r ≡ mentioned_row (record { cond = mentioned r.cond; value = mentioned r.value })
unfolding row_mentions mentioned
row_mentions-is r = fold_out-Row (List AttrId) (List AttrId) mentioned_step mentioned_row r
