-- The kinds that each sort of tree can have.
use Rattle.std.proofs.Common.{◌≡◌, ℕ, Bool, List, map}
use Rattle.opa_value.specs.declared.value.Value.{Value}
use Rattle.opa_model.specs.declared.ids.AttrId.{AttrId}
use Rattle.opa_model.specs.declared.ids.RelId.{RelId}
use Rattle.opa_model.specs.declared.lists.Lists.{Lists}
use Rattle.opa_model.specs.declared.things.Kind.{Kind}
use Rattle.opa_tree.specs.declared.kinds.OpKind.{OpKind}
use Rattle.opa_tree.specs.declared.kinds.Quant.{Quant}
use Rattle.opa_tree.specs.declared.kinds.WinKind.{WinKind}
use Rattle.opa_tree.specs.declared.expr.Expr.{Expr}
use Rattle.opa_tree.specs.declared.expr.Row.{Row}
use Rattle.opa_tree.specs.declared.expr.Expr.TheOpen.{Const, Attr, All, Any, Not, Op, Certain, Known, Over, Window, Rolling, Table}
use Rattle.opa_tree.specs.declared.expr.Expr.TheVariants as V
use Rattle.opa_tree.specs.declared.expr.Expr.TheFolds.{fold-Row}
use Rattle.opa_tree.proofs.Folds.{fold-Const, fold-Attr, fold-All, fold-Any, fold-Not, fold-Op, fold-Certain, fold-Known, fold-Over, fold-Window, fold-Rolling, fold-Table, fold-of_row}
use Rattle.opa_tree.specs.Kinds.{Typing, kinds_step, kinds_row, typing}

-- of a row of a table
unfoldable pub row_typing : Lists → Row → (Kind → Bool)
row_typing m = fold-Row Typing (Kind → Bool) (kinds_step m) kinds_row

pub typing-Const : (m : Lists) (v : Value) → typing m (V.Const v) ≡ kinds_step m (Const v)
unfolding typing row_typing
typing-Const m v = fold-Const Typing (Kind → Bool) (kinds_step m) kinds_row v

pub typing-Attr : (m : Lists) (a : AttrId) → typing m (V.Attr a) ≡ kinds_step m (Attr a)
unfolding typing row_typing
typing-Attr m a = fold-Attr Typing (Kind → Bool) (kinds_step m) kinds_row a

pub typing-All : (m : Lists) (es : List Expr) → typing m (V.All es) ≡ kinds_step m (All (map (typing m) es))
unfolding typing row_typing
typing-All m es = fold-All Typing (Kind → Bool) (kinds_step m) kinds_row es

pub typing-Any : (m : Lists) (es : List Expr) → typing m (V.Any es) ≡ kinds_step m (Any (map (typing m) es))
unfolding typing row_typing
typing-Any m es = fold-Any Typing (Kind → Bool) (kinds_step m) kinds_row es

pub typing-Not : (m : Lists) (e : Expr) → typing m (V.Not e) ≡ kinds_step m (Not (typing m e))
unfolding typing row_typing
typing-Not m e = fold-Not Typing (Kind → Bool) (kinds_step m) kinds_row e

pub typing-Op : (m : Lists) (k : OpKind) (es : List Expr) → typing m (V.Op k es) ≡ kinds_step m (Op k (map (typing m) es))
unfolding typing row_typing
typing-Op m k es = fold-Op Typing (Kind → Bool) (kinds_step m) kinds_row k es

pub typing-Certain : (m : Lists) (e : Expr) → typing m (V.Certain e) ≡ kinds_step m (Certain (typing m e))
unfolding typing row_typing
typing-Certain m e = fold-Certain Typing (Kind → Bool) (kinds_step m) kinds_row e

pub typing-Known : (m : Lists) (e : Expr) → typing m (V.Known e) ≡ kinds_step m (Known (typing m e))
unfolding typing row_typing
typing-Known m e = fold-Known Typing (Kind → Bool) (kinds_step m) kinds_row e

pub typing-Over : (m : Lists) (q : Quant) (r : RelId) (es : List Expr) → typing m (V.Over q r es) ≡ kinds_step m (Over q r (map (typing m) es))
unfolding typing row_typing
typing-Over m q r es = fold-Over Typing (Kind → Bool) (kinds_step m) kinds_row q r es

pub typing-Window : (m : Lists) (k : WinKind) (es : List Expr) → typing m (V.Window k es) ≡ kinds_step m (Window k (map (typing m) es))
unfolding typing row_typing
typing-Window m k es = fold-Window Typing (Kind → Bool) (kinds_step m) kinds_row k es

pub typing-Rolling : (m : Lists) (b : Bool) (n : ℕ) (e : Expr) → typing m (V.Rolling b n e) ≡ kinds_step m (Rolling b n (typing m e))
unfolding typing row_typing
typing-Rolling m b n e = fold-Rolling Typing (Kind → Bool) (kinds_step m) kinds_row b n e

pub typing-Table : (m : Lists) (rows : List Row) (last : Expr) → typing m (V.Table rows last) ≡ kinds_step m (Table (map (row_typing m) rows) (typing m last))
unfolding typing row_typing
typing-Table m rows last = fold-Table Typing (Kind → Bool) (kinds_step m) kinds_row rows last

pub typing-of_row : (m : Lists) (r : Row) → row_typing m r ≡ kinds_row (record { cond = typing m r.cond; value = typing m r.value })
unfolding typing row_typing
typing-of_row m r = fold-of_row Typing (Kind → Bool) (kinds_step m) kinds_row r

pub ruleset typing_laws = (typing-Const, typing-Attr, typing-All, typing-Any, typing-Not, typing-Op, typing-Certain, typing-Known, typing-Over, typing-Window, typing-Rolling, typing-Table)
