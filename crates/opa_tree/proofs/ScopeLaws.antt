-- What is reached, for each sort of tree.
use Rattle.std.proofs.Common.{◌≡◌, ℕ, Bool, List, map}
use Rattle.opa_value.specs.declared.value.Value.{Value}
use Rattle.opa_model.specs.declared.ids.AttrId.{AttrId}
use Rattle.opa_model.specs.declared.ids.RelId.{RelId}
use Rattle.opa_model.specs.declared.lists.Lists.{Lists}
use Rattle.opa_tree.specs.declared.kinds.OpKind.{OpKind}
use Rattle.opa_tree.specs.declared.kinds.Quant.{Quant}
use Rattle.opa_tree.specs.declared.kinds.WinKind.{WinKind}
use Rattle.opa_tree.specs.declared.expr.Expr.{Expr}
use Rattle.opa_tree.specs.declared.expr.Row.{Row}
use Rattle.opa_tree.specs.declared.expr.Expr.TheOpen.{Const, Attr, All, Any, Not, Op, Certain, Known, Over, Window, Rolling, Table}
use Rattle.opa_tree.specs.declared.expr.Expr.TheVariants as V
use Rattle.opa_tree.specs.declared.expr.Expr.TheFolds.{fold-Row}
use Rattle.opa_tree.proofs.Folds.{fold-Const, fold-Attr, fold-All, fold-Any, fold-Not, fold-Op, fold-Certain, fold-Known, fold-Over, fold-Window, fold-Rolling, fold-Table, fold-of_row}
use Rattle.opa_tree.specs.Scopes.{Scope, scope_step, scope_row, is_reached}

-- of a row of a table
unfoldable pub row_is_reached : Lists → Row → Scope
row_is_reached m = fold-Row Scope Scope (scope_step m) scope_row

pub scope-Const : (m : Lists) (v : Value) → is_reached m (V.Const v) ≡ scope_step m (Const v)
unfolding is_reached row_is_reached
scope-Const m v = fold-Const Scope Scope (scope_step m) scope_row v

pub scope-Attr : (m : Lists) (a : AttrId) → is_reached m (V.Attr a) ≡ scope_step m (Attr a)
unfolding is_reached row_is_reached
scope-Attr m a = fold-Attr Scope Scope (scope_step m) scope_row a

pub scope-All : (m : Lists) (es : List Expr) → is_reached m (V.All es) ≡ scope_step m (All (map (is_reached m) es))
unfolding is_reached row_is_reached
scope-All m es = fold-All Scope Scope (scope_step m) scope_row es

pub scope-Any : (m : Lists) (es : List Expr) → is_reached m (V.Any es) ≡ scope_step m (Any (map (is_reached m) es))
unfolding is_reached row_is_reached
scope-Any m es = fold-Any Scope Scope (scope_step m) scope_row es

pub scope-Not : (m : Lists) (e : Expr) → is_reached m (V.Not e) ≡ scope_step m (Not (is_reached m e))
unfolding is_reached row_is_reached
scope-Not m e = fold-Not Scope Scope (scope_step m) scope_row e

pub scope-Op : (m : Lists) (k : OpKind) (es : List Expr) → is_reached m (V.Op k es) ≡ scope_step m (Op k (map (is_reached m) es))
unfolding is_reached row_is_reached
scope-Op m k es = fold-Op Scope Scope (scope_step m) scope_row k es

pub scope-Certain : (m : Lists) (e : Expr) → is_reached m (V.Certain e) ≡ scope_step m (Certain (is_reached m e))
unfolding is_reached row_is_reached
scope-Certain m e = fold-Certain Scope Scope (scope_step m) scope_row e

pub scope-Known : (m : Lists) (e : Expr) → is_reached m (V.Known e) ≡ scope_step m (Known (is_reached m e))
unfolding is_reached row_is_reached
scope-Known m e = fold-Known Scope Scope (scope_step m) scope_row e

pub scope-Over : (m : Lists) (q : Quant) (r : RelId) (es : List Expr) → is_reached m (V.Over q r es) ≡ scope_step m (Over q r (map (is_reached m) es))
unfolding is_reached row_is_reached
scope-Over m q r es = fold-Over Scope Scope (scope_step m) scope_row q r es

pub scope-Window : (m : Lists) (k : WinKind) (es : List Expr) → is_reached m (V.Window k es) ≡ scope_step m (Window k (map (is_reached m) es))
unfolding is_reached row_is_reached
scope-Window m k es = fold-Window Scope Scope (scope_step m) scope_row k es

pub scope-Rolling : (m : Lists) (b : Bool) (n : ℕ) (e : Expr) → is_reached m (V.Rolling b n e) ≡ scope_step m (Rolling b n (is_reached m e))
unfolding is_reached row_is_reached
scope-Rolling m b n e = fold-Rolling Scope Scope (scope_step m) scope_row b n e

pub scope-Table : (m : Lists) (rows : List Row) (last : Expr) → is_reached m (V.Table rows last) ≡ scope_step m (Table (map (row_is_reached m) rows) (is_reached m last))
unfolding is_reached row_is_reached
scope-Table m rows last = fold-Table Scope Scope (scope_step m) scope_row rows last

pub scope-of_row : (m : Lists) (r : Row) → row_is_reached m r ≡ scope_row (record { cond = is_reached m r.cond; value = is_reached m r.value })
unfolding is_reached row_is_reached
scope-of_row m r = fold-of_row Scope Scope (scope_step m) scope_row r

pub ruleset scope_laws = (scope-Const, scope-Attr, scope-All, scope-Any, scope-Not, scope-Op, scope-Certain, scope-Known, scope-Over, scope-Window, scope-Rolling, scope-Table)
