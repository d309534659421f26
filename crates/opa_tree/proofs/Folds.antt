-- A fold over a tree, one level at a time: one law for each sort of tree.
use Rattle.std.proofs.Common.{◌≡◌, ℕ, Bool, List, sym, ◌∙◌, ap}
use Rattle.std.specs.Prelude.{map}
use Rattle.opa_value.specs.declared.value.Value.{Value}
use Rattle.opa_model.specs.declared.ids.AttrId.{AttrId}
use Rattle.opa_model.specs.declared.ids.RelId.{RelId}
use Rattle.opa_tree.specs.declared.kinds.OpKind.{OpKind}
use Rattle.opa_tree.specs.declared.kinds.Quant.{Quant}
use Rattle.opa_tree.specs.declared.kinds.WinKind.{WinKind}
use Rattle.opa_tree.specs.declared.expr.Expr.{Expr}
use Rattle.opa_tree.specs.declared.expr.Row.{Row}
use Rattle.opa_tree.specs.declared.expr.Expr.TheOpen.{Expr-F, Row-F, Const, Attr, All, Any, Not, Op, Certain, Known, Over, Window, Rolling, Table}
use Rattle.opa_tree.specs.declared.expr.Expr.TheVariants as V
use Rattle.opa_tree.specs.declared.expr.Expr.TheViews.{roll-Expr}
use Rattle.opa_tree.specs.declared.expr.Expr.TheFolds.{fold-Expr, fold-Row, fold-roll-Expr, fold_out-Row, map-Expr}

module _ (A B : Type 0) (step : Expr-F A B → A) (row : Row-F A B → B) where
  at : (x : Expr-F Expr Row) (e : Expr) → roll-Expr x ≡ e → fold-Expr A B step row e ≡ step (map-Expr Expr Row A B (fold-Expr A B step row) (fold-Row A B step row) x)
  at x e is = ap (fold-Expr A B step row) (sym is) ∙ fold-roll-Expr A B step row x

  pub fold-Const : (v : Value) → fold-Expr A B step row (V.Const v) ≡ step (Const v)
  fold-Const v = at (Const v) _ (V.rolls-Const v)

  pub fold-Attr : (attr : AttrId) → fold-Expr A B step row (V.Attr attr) ≡ step (Attr attr)
  fold-Attr attr = at (Attr attr) _ (V.rolls-Attr attr)

  pub fold-All : (es : List Expr) → fold-Expr A B step row (V.All es) ≡ step (All (map (fold-Expr A B step row) es))
  fold-All es = at (All es) _ (V.rolls-All es)

  pub fold-Any : (es : List Expr) → fold-Expr A B step row (V.Any es) ≡ step (Any (map (fold-Expr A B step row) es))
  fold-Any es = at (Any es) _ (V.rolls-Any es)

  pub fold-Not : (e : Expr) → fold-Expr A B step row (V.Not e) ≡ step (Not (fold-Expr A B step row e))
  fold-Not e = at (Not e) _ (V.rolls-Not e)

  pub fold-Op : (k : OpKind) (es : List Expr) → fold-Expr A B step row (V.Op k es) ≡ step (Op k (map (fold-Expr A B step row) es))
  fold-Op k es = at (Op k es) _ (V.rolls-Op k es)

  pub fold-Certain : (e : Expr) → fold-Expr A B step row (V.Certain e) ≡ step (Certain (fold-Expr A B step row e))
  fold-Certain e = at (Certain e) _ (V.rolls-Certain e)

  pub fold-Known : (e : Expr) → fold-Expr A B step row (V.Known e) ≡ step (Known (fold-Expr A B step row e))
  fold-Known e = at (Known e) _ (V.rolls-Known e)

  pub fold-Over : (q : Quant) (r : RelId) (es : List Expr) → fold-Expr A B step row (V.Over q r es) ≡ step (Over q r (map (fold-Expr A B step row) es))
  fold-Over q r es = at (Over q r es) _ (V.rolls-Over q r es)

  pub fold-Window : (k : WinKind) (es : List Expr) → fold-Expr A B step row (V.Window k es) ≡ step (Window k (map (fold-Expr A B step row) es))
  fold-Window k es = at (Window k es) _ (V.rolls-Window k es)

  pub fold-Rolling : (b : Bool) (n : ℕ) (e : Expr) → fold-Expr A B step row (V.Rolling b n e) ≡ step (Rolling b n (fold-Expr A B step row e))
  fold-Rolling b n e = at (Rolling b n e) _ (V.rolls-Rolling b n e)

  pub fold-Table : (rows : List Row) (last : Expr) → fold-Expr A B step row (V.Table rows last) ≡ step (Table (map (fold-Row A B step row) rows) (fold-Expr A B step row last))
  fold-Table rows last = at (Table rows last) _ (V.rolls-Table rows last)

  -- the row of a table
  pub fold-of_row : (r : Row) → fold-Row A B step row r ≡ row (record { cond = fold-Expr A B step row r.cond; value = fold-Expr A B step row r.value })
  fold-of_row r = fold_out-Row A B step row r
