-- How each sort of tree is written.
use Rattle.std.proofs.Common.{◌≡◌, ℕ, Bool, List, [], map}
use Rattle.opa_value.specs.declared.value.Value.{Value}
use Rattle.opa_model.specs.declared.ids.AttrId.{AttrId}
use Rattle.opa_model.specs.declared.ids.RelId.{RelId}
use Rattle.opa_model.specs.declared.lists.Lists.{Lists}
use Rattle.opa_tree.specs.declared.kinds.OpKind.{OpKind}
use Rattle.opa_tree.specs.declared.kinds.Quant.{Quant}
use Rattle.opa_tree.specs.declared.kinds.WinKind.{WinKind}
use Rattle.opa_tree.specs.declared.expr.Expr.{Expr}
use Rattle.opa_tree.specs.declared.expr.Row.{Row}
use Rattle.opa_tree.specs.declared.expr.Expr.TheOpen.{Const, Attr, All, Any, Not, Op, Certain, Known, Over, Window, Rolling}
use Rattle.opa_tree.specs.declared.expr.Expr.TheVariants as V
use Rattle.opa_tree.proofs.Folds.{fold-Const, fold-Attr, fold-All, fold-Any, fold-Not, fold-Op, fold-Certain, fold-Known, fold-Over, fold-Window, fold-Rolling, fold-Table}
use Rattle.opa_wording.specs.Wordings.{Wording, wording_step, wording_row, wording, alike}

pub wording-Const : (m : Lists) (v : Value) → wording m (V.Const v) ≡ wording_step m (Const v)
unfolding wording
wording-Const m v = fold-Const Wording Wording (wording_step m) wording_row v

pub wording-Attr : (m : Lists) (a : AttrId) → wording m (V.Attr a) ≡ wording_step m (Attr a)
unfolding wording
wording-Attr m a = fold-Attr Wording Wording (wording_step m) wording_row a

pub wording-All : (m : Lists) (es : List Expr) → wording m (V.All es) ≡ wording_step m (All (map (wording m) es))
unfolding wording
wording-All m es = fold-All Wording Wording (wording_step m) wording_row es

pub wording-Any : (m : Lists) (es : List Expr) → wording m (V.Any es) ≡ wording_step m (Any (map (wording m) es))
unfolding wording
wording-Any m es = fold-Any Wording Wording (wording_step m) wording_row es

pub wording-Not : (m : Lists) (e : Expr) → wording m (V.Not e) ≡ wording_step m (Not (wording m e))
unfolding wording
wording-Not m e = fold-Not Wording Wording (wording_step m) wording_row e

pub wording-Op : (m : Lists) (k : OpKind) (es : List Expr) → wording m (V.Op k es) ≡ wording_step m (Op k (map (wording m) es))
unfolding wording
wording-Op m k es = fold-Op Wording Wording (wording_step m) wording_row k es

pub wording-Certain : (m : Lists) (e : Expr) → wording m (V.Certain e) ≡ wording_step m (Certain (wording m e))
unfolding wording
wording-Certain m e = fold-Certain Wording Wording (wording_step m) wording_row e

pub wording-Known : (m : Lists) (e : Expr) → wording m (V.Known e) ≡ wording_step m (Known (wording m e))
unfolding wording
wording-Known m e = fold-Known Wording Wording (wording_step m) wording_row e

pub wording-Over : (m : Lists) (q : Quant) (r : RelId) (es : List Expr) → wording m (V.Over q r es) ≡ wording_step m (Over q r (map (wording m) es))
unfolding wording
wording-Over m q r es = fold-Over Wording Wording (wording_step m) wording_row q r es

pub wording-Window : (m : Lists) (k : WinKind) (es : List Expr) → wording m (V.Window k es) ≡ wording_step m (Window k (map (wording m) es))
unfolding wording
wording-Window m k es = fold-Window Wording Wording (wording_step m) wording_row k es

pub wording-Rolling : (m : Lists) (b : Bool) (n : ℕ) (e : Expr) → wording m (V.Rolling b n e) ≡ wording_step m (Rolling b n (wording m e))
unfolding wording
wording-Rolling m b n e = fold-Rolling Wording Wording (wording_step m) wording_row b n e

pub wording-Table : (m : Lists) (rows : List Row) (last : Expr) → wording m (V.Table rows last) ≡ alike (λ s. [])
unfolding wording
wording-Table m rows last = fold-Table Wording Wording (wording_step m) wording_row rows last

pub ruleset wordings = (wording-Const, wording-Attr, wording-All, wording-Any, wording-Not, wording-Op, wording-Certain, wording-Known, wording-Over, wording-Window, wording-Rolling, wording-Table)
