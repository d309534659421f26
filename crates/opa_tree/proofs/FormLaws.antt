-- The form of each sort of tree.
use Rattle.std.proofs.Common.{◌≡◌, ℕ, Bool, List, map}
use Rattle.opa_value.specs.declared.value.Value.{Value}
use Rattle.opa_model.specs.declared.ids.AttrId.{AttrId}
use Rattle.opa_model.specs.declared.ids.RelId.{RelId}
use Rattle.opa_tree.specs.declared.kinds.OpKind.{OpKind}
use Rattle.opa_tree.specs.declared.kinds.Quant.{Quant}
use Rattle.opa_tree.specs.declared.kinds.WinKind.{WinKind}
use Rattle.opa_tree.specs.declared.expr.Expr.{Expr}
use Rattle.opa_tree.specs.declared.expr.Row.{Row}
use Rattle.opa_tree.specs.declared.expr.Expr.TheOpen.{Expr-F, Const, Attr, All, Any, Not, Op, Certain, Known, Over, Window, Rolling, Table}
use Rattle.opa_tree.specs.declared.expr.Expr.TheVariants as V
use Rattle.opa_tree.specs.declared.expr.Expr.TheFolds.{fold-Row, fold-roll-Expr, map-Expr}
use Rattle.opa_tree.specs.declared.expr.Expr.TheViews.{roll-Expr}
use Rattle.opa_tree.proofs.Folds.{fold-Const, fold-Attr, fold-All, fold-Any, fold-Not, fold-Op, fold-Certain, fold-Known, fold-Over, fold-Window, fold-Rolling, fold-Table, fold-of_row}
use Rattle.opa_tree.specs.Trees.{form_step, form_row, has_form}

-- of a row of a table
unfoldable pub row_has_form : Row → (Bool → Bool)
row_has_form = fold-Row (Bool → Bool) (Bool → Bool) form_step form_row

-- of every sort at once
pub form-roll : (x : Expr-F Expr Row) → has_form (roll-Expr x) ≡ form_step (map-Expr Expr Row (Bool → Bool) (Bool → Bool) has_form row_has_form x)
unfolding has_form row_has_form
form-roll = fold-roll-Expr (Bool → Bool) (Bool → Bool) form_step form_row

pub form-Const : (v : Value) → has_form (V.Const v) ≡ form_step (Const v)
unfolding has_form row_has_form
form-Const v = fold-Const (Bool → Bool) (Bool → Bool) form_step form_row v

pub form-Attr : (a : AttrId) → has_form (V.Attr a) ≡ form_step (Attr a)
unfolding has_form row_has_form
form-Attr a = fold-Attr (Bool → Bool) (Bool → Bool) form_step form_row a

pub form-All : (es : List Expr) → has_form (V.All es) ≡ form_step (All (map has_form es))
unfolding has_form row_has_form
form-All es = fold-All (Bool → Bool) (Bool → Bool) form_step form_row es

pub form-Any : (es : List Expr) → has_form (V.Any es) ≡ form_step (Any (map has_form es))
unfolding has_form row_has_form
form-Any es = fold-Any (Bool → Bool) (Bool → Bool) form_step form_row es

pub form-Not : (e : Expr) → has_form (V.Not e) ≡ form_step (Not (has_form e))
unfolding has_form row_has_form
form-Not e = fold-Not (Bool → Bool) (Bool → Bool) form_step form_row e

pub form-Op : (k : OpKind) (es : List Expr) → has_form (V.Op k es) ≡ form_step (Op k (map has_form es))
unfolding has_form row_has_form
form-Op k es = fold-Op (Bool → Bool) (Bool → Bool) form_step form_row k es

pub form-Certain : (e : Expr) → has_form (V.Certain e) ≡ form_step (Certain (has_form e))
unfolding has_form row_has_form
form-Certain e = fold-Certain (Bool → Bool) (Bool → Bool) form_step form_row e

pub form-Known : (e : Expr) → has_form (V.Known e) ≡ form_step (Known (has_form e))
unfolding has_form row_has_form
form-Known e = fold-Known (Bool → Bool) (Bool → Bool) form_step form_row e

pub form-Over : (q : Quant) (r : RelId) (es : List Expr) → has_form (V.Over q r es) ≡ form_step (Over q r (map has_form es))
unfolding has_form row_has_form
form-Over q r es = fold-Over (Bool → Bool) (Bool → Bool) form_step form_row q r es

pub form-Window : (k : WinKind) (es : List Expr) → has_form (V.Window k es) ≡ form_step (Window k (map has_form es))
unfolding has_form row_has_form
form-Window k es = fold-Window (Bool → Bool) (Bool → Bool) form_step form_row k es

pub form-Rolling : (b : Bool) (n : ℕ) (e : Expr) → has_form (V.Rolling b n e) ≡ form_step (Rolling b n (has_form e))
unfolding has_form row_has_form
form-Rolling b n e = fold-Rolling (Bool → Bool) (Bool → Bool) form_step form_row b n e

pub form-Table : (rows : List Row) (last : Expr) → has_form (V.Table rows last) ≡ form_step (Table (map row_has_form rows) (has_form last))
unfolding has_form row_has_form
form-Table rows last = fold-Table (Bool → Bool) (Bool → Bool) form_step form_row rows last

pub form-of_row : (r : Row) → row_has_form r ≡ form_row (record { cond = has_form r.cond; value = has_form r.value })
unfolding has_form row_has_form
form-of_row r = fold-of_row (Bool → Bool) (Bool → Bool) form_step form_row r

pub ruleset form_laws = (form-Const, form-Attr, form-All, form-Any, form-Not, form-Op, form-Certain, form-Known, form-Over, form-Window, form-Rolling, form-Table)
