-- The depth of each sort of tree.
use Rattle.std.proofs.Common.{◌≡◌, ◌∙◌, ◌+◌, ◌<◌, max, ap, ap₂, sym, subst, refl, ℕ, Bool, true, false, List, [], ◌∷◌, map, nat_le, arith}
use Rattle.opa_value.specs.declared.value.Value.{Value}
use Rattle.opa_model.specs.declared.ids.AttrId.{AttrId}
use Rattle.opa_model.specs.declared.ids.RelId.{RelId}
use Rattle.opa_tree.specs.declared.kinds.OpKind.{OpKind}
use Rattle.opa_tree.specs.declared.kinds.Quant.{Quant}
use Rattle.opa_tree.specs.declared.kinds.WinKind.{WinKind}
use Rattle.opa_tree.specs.declared.expr.Expr.{Expr}
use Rattle.opa_tree.specs.declared.expr.Row.{Row}
use Rattle.opa_tree.specs.declared.expr.Expr.TheOpen.{Expr-F, Const, Attr, All, Any, Not, Op, Certain, Known, Over, Window, Rolling, Table}
use Rattle.opa_tree.specs.declared.expr.Expr.TheVariants as V
use Rattle.opa_tree.specs.declared.expr.Expr.TheFolds.{fold-Row, fold-roll-Expr}
use Rattle.opa_tree.proofs.Induction.{by_parts, without}
use Rattle.opa_tree.proofs.Folds.{fold-Const, fold-Attr, fold-All, fold-Any, fold-Not, fold-Op, fold-Certain, fold-Known, fold-Over, fold-Window, fold-Rolling, fold-Table, fold-of_row}
use Rattle.opa_tree.specs.Trees.{depth_step, depth_row, depth, row_depth, highest}

-- of a row of a table, by the fold
unfoldable pub folded_row : Row → ℕ
folded_row = fold-Row ℕ ℕ depth_step depth_row

pub depth-Const : (v : Value) → depth (V.Const v) ≡ depth_step (Const v)
unfolding depth folded_row
depth-Const v = fold-Const ℕ ℕ depth_step depth_row v

pub depth-Attr : (a : AttrId) → depth (V.Attr a) ≡ depth_step (Attr a)
unfolding depth folded_row
depth-Attr a = fold-Attr ℕ ℕ depth_step depth_row a

pub depth-All : (es : List Expr) → depth (V.All es) ≡ depth_step (All (map depth es))
unfolding depth folded_row
depth-All es = fold-All ℕ ℕ depth_step depth_row es

pub depth-Any : (es : List Expr) → depth (V.Any es) ≡ depth_step (Any (map depth es))
unfolding depth folded_row
depth-Any es = fold-Any ℕ ℕ depth_step depth_row es

pub depth-Not : (e : Expr) → depth (V.Not e) ≡ depth_step (Not (depth e))
unfolding depth folded_row
depth-Not e = fold-Not ℕ ℕ depth_step depth_row e

pub depth-Op : (k : OpKind) (es : List Expr) → depth (V.Op k es) ≡ depth_step (Op k (map depth es))
unfolding depth folded_row
depth-Op k es = fold-Op ℕ ℕ depth_step depth_row k es

pub depth-Certain : (e : Expr) → depth (V.Certain e) ≡ depth_step (Certain (depth e))
unfolding depth folded_row
depth-Certain e = fold-Certain ℕ ℕ depth_step depth_row e

pub depth-Known : (e : Expr) → depth (V.Known e) ≡ depth_step (Known (depth e))
unfolding depth folded_row
depth-Known e = fold-Known ℕ ℕ depth_step depth_row e

pub depth-Over : (q : Quant) (r : RelId) (es : List Expr) → depth (V.Over q r es) ≡ depth_step (Over q r (map depth es))
unfolding depth folded_row
depth-Over q r es = fold-Over ℕ ℕ depth_step depth_row q r es

pub depth-Window : (k : WinKind) (es : List Expr) → depth (V.Window k es) ≡ depth_step (Window k (map depth es))
unfolding depth folded_row
depth-Window k es = fold-Window ℕ ℕ depth_step depth_row k es

pub depth-Rolling : (b : Bool) (n : ℕ) (e : Expr) → depth (V.Rolling b n e) ≡ depth_step (Rolling b n (depth e))
unfolding depth folded_row
depth-Rolling b n e = fold-Rolling ℕ ℕ depth_step depth_row b n e

folded-Table : (rows : List Row) (last : Expr) → depth (V.Table rows last) ≡ depth_step (Table (map folded_row rows) (depth last))
unfolding depth folded_row
folded-Table rows last = fold-Table ℕ ℕ depth_step depth_row rows last

pub depth-of_row : (r : Row) → folded_row r ≡ row_depth r
unfolding depth folded_row
depth-of_row r = fold-of_row ℕ ℕ depth_step depth_row r

of_rows : (rows : List Row) → map folded_row rows ≡ map row_depth rows
of_rows [] = refl
of_rows (r ∷ rows) = ap₂ (λ n ns. n ∷ ns) (depth-of_row r) (of_rows rows)

pub depth-Table : (rows : List Row) (last : Expr) → depth (V.Table rows last) ≡ depth_step (Table (map row_depth rows) (depth last))
depth-Table rows last = folded-Table rows last ∙ ap (λ ns. 1 + max (highest ns) (depth last)) (of_rows rows)

pub ruleset depth_laws = (depth-Const, depth-Attr, depth-All, depth-Any, depth-Not, depth-Op, depth-Certain, depth-Known, depth-Over, depth-Window, depth-Rolling, depth-Table)

above_step : (x : Expr-F ℕ ℕ) → 0 < depth_step x
above_step (Const v) = omega arith
above_step (Attr a) = omega arith
above_step (All xs) = omega arith
above_step (Any xs) = omega arith
above_step (Not x) = omega arith
above_step (Op k xs) = omega arith
above_step (Certain x) = omega arith
above_step (Known x) = omega arith
above_step (Over q r xs) = omega arith
above_step (Window k xs) = omega arith
above_step (Rolling b n x) = omega arith
above_step (Table rows last) = omega arith

-- each tree is at least one deep
pub depth_above : (e : Expr) → 0 < depth e
unfolding depth
depth_above = by_parts (λ e. 0 < depth e) (λ z. subst (λ n. 0 < n) (sym (fold-roll-Expr ℕ ℕ depth_step depth_row (without (λ e. 0 < depth e) z))) (above_step _))

-- the greater of two is within where both are
pub both_within : (m k n : ℕ) → nat_le m n ≡ true → nat_le (max m k) n ≡ nat_le k n
both_within m k n h = grind (arith, h)

pub one_beyond : (m k n : ℕ) → nat_le m n ≡ false → nat_le (max m k) n ≡ false
one_beyond m k n h = grind (arith, h)

pub none_within : (e : Expr) → nat_le (depth e) 0 ≡ false
none_within e = let above : 0 < depth e = depth_above e in grind (arith, above)
