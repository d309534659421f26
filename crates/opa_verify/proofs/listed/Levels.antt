-- What is seen of a tree, one level at a time.
use Rattle.std.proofs.Common.{◌≡◌}
use Rattle.opa_tree.specs.declared.expr.Expr.{Expr}
use Rattle.opa_tree.specs.declared.expr.Row.{Row}
use Rattle.opa_tree.specs.declared.expr.Expr.TheOpen.{Expr-F}
use Rattle.opa_tree.specs.declared.expr.Expr.TheViews.{roll-Expr}
use Rattle.opa_tree.specs.declared.expr.Expr.TheFolds.{fold-Row, fold-roll-Expr, fold_out-Row, map-Expr}
use Rattle.opa_case.specs.Shapes.{Shape}
use Rattle.opa_verify.specs.Listed.Listings.{Listing}
use Rattle.opa_verify.specs.Listed.Seen.{Sight, RowSight, seen_step, seen_row, seen}

unfoldable pub row_seen : Shape → Listing → Row → RowSight
row_seen s k = fold-Row Sight RowSight (seen_step s k) seen_row

pub seen-roll : (s : Shape) (k : Listing) (x : Expr-F Expr Row) → seen s k (roll-Expr x) ≡ seen_step s k (map-Expr Expr Row Sight RowSight (seen s k) (row_seen s k) x)
unfolding seen row_seen
seen-roll s k = fold-roll-Expr Sight RowSight (seen_step s k) seen_row

pub row_seen-is : (s : Shape) (k : Listing) (r : Row) → row_seen s k r ≡ record { cond = seen s k r.cond; value = seen s k r.value }
unfolding seen row_seen
row_seen-is s k r = fold_out-Row Sight RowSight (seen_step s k) seen_row r
