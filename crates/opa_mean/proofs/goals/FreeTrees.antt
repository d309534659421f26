-- Which sort of tree asks whether a value is known.
use Rattle.std.proofs.Common.{◌≡◌, ◌∙◌, ap, ap₂, refl, ℕ, Bool, true, false, ◌&&◌, List, [], ◌∷◌, map}
use Rattle.std.specs.List.{list_all}
use Rattle.std.proofs.lemmas.List.Folds.{list_all-map}
use Rattle.opa_value.specs.declared.value.Value.{Value}
use Rattle.opa_model.specs.declared.ids.AttrId.{AttrId}
use Rattle.opa_model.specs.declared.ids.RelId.{RelId}
use Rattle.opa_tree.specs.declared.kinds.OpKind.{OpKind}
use Rattle.opa_tree.specs.declared.kinds.Quant.{Quant}
use Rattle.opa_tree.specs.declared.kinds.WinKind.{WinKind}
use Rattle.opa_tree.specs.declared.expr.Expr.{Expr}
use Rattle.opa_tree.specs.declared.expr.Row.{Row}
use Rattle.opa_tree.specs.declared.expr.Expr.TheVariants as V
use Rattle.opa_tree.specs.declared.expr.Expr.TheFolds.{fold-Row}
use Rattle.opa_tree.proofs.Folds.{fold-Const, fold-Attr, fold-All, fold-Any, fold-Not, fold-Op, fold-Certain, fold-Known, fold-Over, fold-Window, fold-Rolling, fold-Table, fold-of_row}
use Rattle.opa_mean.specs.Frees.{free_step, free_row, is_free}
use Rattle.opa_mean.specs.Goals.Tables.{row_asks_nothing}

-- of a row of a table, by the fold
unfoldable pub folded_row : Row → Bool
folded_row = fold-Row Bool Bool free_step free_row

each : (es : List Expr) → list_all (λ x. x) (map is_free es) ≡ list_all is_free es
each es = list_all-map (λ x. x) is_free es

pub free-Const : (v : Value) → is_free (V.Const v) ≡ true
unfolding is_free folded_row
free-Const v = fold-Const Bool Bool free_step free_row v

pub free-Attr : (a : AttrId) → is_free (V.Attr a) ≡ true
unfolding is_free folded_row
free-Attr a = fold-Attr Bool Bool free_step free_row a

folded-All : (es : List Expr) → is_free (V.All es) ≡ list_all (λ x. x) (map is_free es)
unfolding is_free folded_row
folded-All es = fold-All Bool Bool free_step free_row es

pub free-All : (es : List Expr) → is_free (V.All es) ≡ list_all is_free es
free-All es = folded-All es ∙ each es

folded-Any : (es : List Expr) → is_free (V.Any es) ≡ list_all (λ x. x) (map is_free es)
unfolding is_free folded_row
folded-Any es = fold-Any Bool Bool free_step free_row es

pub free-Any : (es : List Expr) → is_free (V.Any es) ≡ list_all is_free es
free-Any es = folded-Any es ∙ each es

pub free-Not : (e : Expr) → is_free (V.Not e) ≡ is_free e
unfolding is_free folded_row
free-Not e = fold-Not Bool Bool free_step free_row e

folded-Op : (k : OpKind) (es : List Expr) → is_free (V.Op k es) ≡ list_all (λ x. x) (map is_free es)
unfolding is_free folded_row
folded-Op k es = fold-Op Bool Bool free_step free_row k es

pub free-Op : (k : OpKind) (es : List Expr) → is_free (V.Op k es) ≡ list_all is_free es
free-Op k es = folded-Op k es ∙ each es

pub free-Certain : (e : Expr) → is_free (V.Certain e) ≡ is_free e
unfolding is_free folded_row
free-Certain e = fold-Certain Bool Bool free_step free_row e

pub free-Known : (e : Expr) → is_free (V.Known e) ≡ false
unfolding is_free folded_row
free-Known e = fold-Known Bool Bool free_step free_row e

folded-Over : (q : Quant) (r : RelId) (es : List Expr) → is_free (V.Over q r es) ≡ list_all (λ x. x) (map is_free es)
unfolding is_free folded_row
folded-Over q r es = fold-Over Bool Bool free_step free_row q r es

pub free-Over : (q : Quant) (r : RelId) (es : List Expr) → is_free (V.Over q r es) ≡ list_all is_free es
free-Over q r es = folded-Over q r es ∙ each es

folded-Window : (k : WinKind) (es : List Expr) → is_free (V.Window k es) ≡ list_all (λ x. x) (map is_free es)
unfolding is_free folded_row
folded-Window k es = fold-Window Bool Bool free_step free_row k es

pub free-Window : (k : WinKind) (es : List Expr) → is_free (V.Window k es) ≡ list_all is_free es
free-Window k es = folded-Window k es ∙ each es

pub free-Rolling : (b : Bool) (n : ℕ) (e : Expr) → is_free (V.Rolling b n e) ≡ is_free e
unfolding is_free folded_row
free-Rolling b n e = fold-Rolling Bool Bool free_step free_row b n e

folded-Table : (rows : List Row) (last : Expr) → is_free (V.Table rows last) ≡ (list_all (λ x. x) (map folded_row rows) && is_free last)
unfolding is_free folded_row
folded-Table rows last = fold-Table Bool Bool free_step free_row rows last

of_row : (r : Row) → folded_row r ≡ row_asks_nothing r
unfolding is_free folded_row
of_row r = fold-of_row Bool Bool free_step free_row r

of_rows : (rows : List Row) → list_all (λ x. x) (map folded_row rows) ≡ list_all row_asks_nothing rows
of_rows [] = refl
of_rows (r ∷ rows) = ap₂ (λ x y. x && y) (of_row r) (of_rows rows)

pub free-Table : (rows : List Row) (last : Expr) → is_free (V.Table rows last) ≡ (list_all row_asks_nothing rows && is_free last)
free-Table rows last = folded-Table rows last ∙ ap (λ b. b && is_free last) (of_rows rows)

pub ruleset free_laws = (free-Const, free-Attr, free-All, free-Any, free-Not, free-Op, free-Certain, free-Known, free-Over, free-Window, free-Rolling, free-Table)
