-- How trees end.
use Rattle.std.proofs.Common.{◌≡◌, ℕ, Bool, false, List, sym, ap, ◌∙◌}
use Rattle.opa_value.specs.declared.value.Value.{Value}
use Rattle.opa_model.specs.declared.ids.AttrId.{AttrId}
use Rattle.opa_model.specs.declared.ids.RelId.{RelId}
use Rattle.opa_tree.specs.declared.kinds.OpKind.{OpKind}
use Rattle.opa_tree.specs.declared.kinds.Quant.{Quant}
use Rattle.opa_tree.specs.declared.kinds.WinKind.{WinKind}
use Rattle.opa_tree.specs.declared.expr.Expr.{Expr}
use Rattle.opa_tree.specs.declared.expr.Row.{Row}
use Rattle.opa_tree.specs.declared.expr.Expr.TheOpen.{Expr-F, Const, Attr, All, Any, Not, Op, Certain, Known, Over, Window, Rolling, Table}
use Rattle.opa_tree.specs.declared.expr.Expr.TheVariants as V
use Rattle.opa_tree.specs.declared.expr.Expr.TheViews.{roll-Expr, out-Expr, out-roll-Expr}
use Rattle.opa_rules.specs.Reviewing.Endings.{is_uncertain, ends_by, ends_uncertain}

opened : (x : Expr-F Expr Row) (e : Expr) → roll-Expr x ≡ e → ends_uncertain e ≡ ends_by x
opened x e is = ap ends_by (ap out-Expr (sym is) ∙ out-roll-Expr x)

pub ends-Const : (v : Value) → ends_uncertain (V.Const v) ≡ false
ends-Const v = opened (Const v) (V.Const v) (V.rolls-Const v)

pub ends-Attr : (a : AttrId) → ends_uncertain (V.Attr a) ≡ false
ends-Attr a = opened (Attr a) (V.Attr a) (V.rolls-Attr a)

pub ends-All : (es : List Expr) → ends_uncertain (V.All es) ≡ false
ends-All es = opened (All es) (V.All es) (V.rolls-All es)

pub ends-Any : (es : List Expr) → ends_uncertain (V.Any es) ≡ false
ends-Any es = opened (Any es) (V.Any es) (V.rolls-Any es)

pub ends-Not : (e : Expr) → ends_uncertain (V.Not e) ≡ false
ends-Not e = opened (Not e) (V.Not e) (V.rolls-Not e)

pub ends-Op : (k : OpKind) (es : List Expr) → ends_uncertain (V.Op k es) ≡ false
ends-Op k es = opened (Op k es) (V.Op k es) (V.rolls-Op k es)

pub ends-Certain : (e : Expr) → ends_uncertain (V.Certain e) ≡ false
ends-Certain e = opened (Certain e) (V.Certain e) (V.rolls-Certain e)

pub ends-Known : (e : Expr) → ends_uncertain (V.Known e) ≡ false
ends-Known e = opened (Known e) (V.Known e) (V.rolls-Known e)

pub ends-Over : (q : Quant) (r : RelId) (es : List Expr) → ends_uncertain (V.Over q r es) ≡ false
ends-Over q r es = opened (Over q r es) (V.Over q r es) (V.rolls-Over q r es)

pub ends-Window : (k : WinKind) (es : List Expr) → ends_uncertain (V.Window k es) ≡ false
ends-Window k es = opened (Window k es) (V.Window k es) (V.rolls-Window k es)

pub ends-Rolling : (b : Bool) (n : ℕ) (e : Expr) → ends_uncertain (V.Rolling b n e) ≡ false
ends-Rolling b n e = opened (Rolling b n e) (V.Rolling b n e) (V.rolls-Rolling b n e)

pub ends-Table : (rows : List Row) (last : Expr) → ends_uncertain (V.Table rows last) ≡ is_uncertain last
ends-Table rows last = opened (Table rows last) (V.Table rows last) (V.rolls-Table rows last)

pub ruleset ending_laws = (ends-Const, ends-Attr, ends-All, ends-Any, ends-Not, ends-Op, ends-Certain, ends-Known, ends-Over, ends-Window, ends-Rolling, ends-Table)
