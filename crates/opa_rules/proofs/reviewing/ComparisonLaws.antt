-- The comparisons of a tree, one level at a time.
use Rattle.std.proofs.Common.{◌≡◌, ℕ, Bool, List, [], ◌∷◌, ◌++◌, map, Option, None, Some, refl, ap, ap₂, ◌∙◌}
use Rattle.std.specs.Prelude.{flat_map}
use Rattle.opa_value.specs.declared.value.Value.{Value}
use Rattle.opa_model.specs.declared.ids.AttrId.{AttrId}
use Rattle.opa_model.specs.declared.ids.RelId.{RelId}
use Rattle.opa_tree.specs.declared.kinds.OpKind.{OpKind}
use Rattle.opa_tree.specs.declared.kinds.Quant.{Quant}
use Rattle.opa_tree.specs.declared.kinds.WinKind.{WinKind}
use Rattle.opa_tree.specs.declared.expr.Expr.{Expr}
use Rattle.opa_tree.specs.declared.expr.Row.{Row}
use Rattle.opa_tree.specs.declared.expr.Expr.TheVariants as V
use Rattle.opa_tree.specs.declared.expr.Expr.TheFolds.{fold-Row}
use Rattle.opa_tree.proofs.Folds.{fold-Const, fold-Attr, fold-All, fold-Any, fold-Not, fold-Op, fold-Certain, fold-Known, fold-Over, fold-Window, fold-Rolling, fold-Table, fold-of_row}
use Rattle.opa_tree.proofs.MentionLaws.{flat_map-map}
use Rattle.opa_rules.specs.declared.reviewing.finding.Comparison.{Comparison}
use Rattle.opa_rules.specs.declared.reviewing.finding.Operand.{Operand}
use Rattle.opa_rules.specs.declared.reviewing.finding.Operand.TheVariants as operand
use Rattle.opa_rules.specs.Reviewing.Comparisons.{Seen, no_side, literal, compared, sides, all_in, seen_step, seen_row, seen, side_of, comparisons, row_comparisons}

abbrev Found : Type 0
Found = List Comparison

-- ---- what is seen of a tree

seen-Const : (v : Value) → seen (V.Const v) ≡ record { side = literal v; comparisons = [] }
unfolding seen
seen-Const v = fold-Const Seen Found seen_step seen_row v

seen-Attr : (a : AttrId) → seen (V.Attr a) ≡ record { side = Some (operand.Attr a); comparisons = [] }
unfolding seen
seen-Attr a = fold-Attr Seen Found seen_step seen_row a

seen-All : (es : List Expr) → seen (V.All es) ≡ no_side (all_in (map seen es))
unfolding seen
seen-All es = fold-All Seen Found seen_step seen_row es

seen-Any : (es : List Expr) → seen (V.Any es) ≡ no_side (all_in (map seen es))
unfolding seen
seen-Any es = fold-Any Seen Found seen_step seen_row es

seen-Not : (e : Expr) → seen (V.Not e) ≡ no_side (comparisons e)
unfolding seen
seen-Not e = fold-Not Seen Found seen_step seen_row e

seen-Op : (k : OpKind) (es : List Expr) → seen (V.Op k es) ≡ no_side (compared k (sides (map seen es)) ++ all_in (map seen es))
unfolding seen
seen-Op k es = fold-Op Seen Found seen_step seen_row k es

seen-Certain : (e : Expr) → seen (V.Certain e) ≡ no_side (comparisons e)
unfolding seen
seen-Certain e = fold-Certain Seen Found seen_step seen_row e

seen-Known : (e : Expr) → seen (V.Known e) ≡ no_side (comparisons e)
unfolding seen
seen-Known e = fold-Known Seen Found seen_step seen_row e

seen-Over : (q : Quant) (r : RelId) (es : List Expr) → seen (V.Over q r es) ≡ no_side (all_in (map seen es))
unfolding seen
seen-Over q r es = fold-Over Seen Found seen_step seen_row q r es

seen-Window : (k : WinKind) (es : List Expr) → seen (V.Window k es) ≡ no_side (all_in (map seen es))
unfolding seen
seen-Window k es = fold-Window Seen Found seen_step seen_row k es

seen-Rolling : (b : Bool) (n : ℕ) (e : Expr) → seen (V.Rolling b n e) ≡ no_side (comparisons e)
unfolding seen
seen-Rolling b n e = fold-Rolling Seen Found seen_step seen_row b n e

rows_compared : (rows : List Row) → flat_map (λ x. x) (map (fold-Row Seen Found seen_step seen_row) rows) ≡ flat_map row_comparisons rows
unfolding seen
rows_compared [] = refl
rows_compared (r ∷ rows) =
    ap (λ xs. xs ++ flat_map (λ x. x) (map (fold-Row Seen Found seen_step seen_row) rows)) (fold-of_row Seen Found seen_step seen_row r)
    ∙ ap (λ bs. row_comparisons r ++ bs) (rows_compared rows)

seen-Table : (rows : List Row) (last : Expr) → seen (V.Table rows last) ≡ no_side (flat_map row_comparisons rows ++ comparisons last)
unfolding seen
seen-Table rows last = fold-Table Seen Found seen_step seen_row rows last ∙ ap (λ xs. no_side (xs ++ comparisons last)) (rows_compared rows)

-- ---- sides

abbrev side : Seen → Option Operand
side s = s.side

pub side-Const : (v : Value) → side_of (V.Const v) ≡ literal v
side-Const v = ap side (seen-Const v)

pub side-Attr : (a : AttrId) → side_of (V.Attr a) ≡ Some (operand.Attr a)
side-Attr a = ap side (seen-Attr a)

pub side-All : (es : List Expr) → side_of (V.All es) ≡ None
side-All es = ap side (seen-All es)

pub side-Any : (es : List Expr) → side_of (V.Any es) ≡ None
side-Any es = ap side (seen-Any es)

pub side-Not : (e : Expr) → side_of (V.Not e) ≡ None
side-Not e = ap side (seen-Not e)

pub side-Op : (k : OpKind) (es : List Expr) → side_of (V.Op k es) ≡ None
side-Op k es = ap side (seen-Op k es)

pub side-Certain : (e : Expr) → side_of (V.Certain e) ≡ None
side-Certain e = ap side (seen-Certain e)

pub side-Known : (e : Expr) → side_of (V.Known e) ≡ None
side-Known e = ap side (seen-Known e)

pub side-Over : (q : Quant) (r : RelId) (es : List Expr) → side_of (V.Over q r es) ≡ None
side-Over q r es = ap side (seen-Over q r es)

pub side-Window : (k : WinKind) (es : List Expr) → side_of (V.Window k es) ≡ None
side-Window k es = ap side (seen-Window k es)

pub side-Rolling : (b : Bool) (n : ℕ) (e : Expr) → side_of (V.Rolling b n e) ≡ None
side-Rolling b n e = ap side (seen-Rolling b n e)

pub side-Table : (rows : List Row) (last : Expr) → side_of (V.Table rows last) ≡ None
side-Table rows last = ap side (seen-Table rows last)

pub ruleset side_laws = (side-Const, side-Attr, side-All, side-Any, side-Not, side-Op, side-Certain, side-Known, side-Over, side-Window, side-Rolling, side-Table)

-- ---- comparisons

abbrev own : Seen → Found
own s = s.comparisons

all_in-map : (es : List Expr) → all_in (map seen es) ≡ flat_map comparisons es
all_in-map es = flat_map-map seen own es

sides-map : (es : List Expr) → sides (map seen es) ≡ map side_of es
sides-map [] = refl
sides-map (e ∷ es) = ap (λ os. side_of e ∷ os) (sides-map es)

pub comparisons-Const : (v : Value) → comparisons (V.Const v) ≡ []
comparisons-Const v = ap own (seen-Const v)

pub comparisons-Attr : (a : AttrId) → comparisons (V.Attr a) ≡ []
comparisons-Attr a = ap own (seen-Attr a)

pub comparisons-All : (es : List Expr) → comparisons (V.All es) ≡ flat_map comparisons es
comparisons-All es = ap own (seen-All es) ∙ all_in-map es

pub comparisons-Any : (es : List Expr) → comparisons (V.Any es) ≡ flat_map comparisons es
comparisons-Any es = ap own (seen-Any es) ∙ all_in-map es

pub comparisons-Not : (e : Expr) → comparisons (V.Not e) ≡ comparisons e
comparisons-Not e = ap own (seen-Not e)

pub comparisons-Op : (k : OpKind) (es : List Expr) → comparisons (V.Op k es) ≡ compared k (map side_of es) ++ flat_map comparisons es
comparisons-Op k es = ap own (seen-Op k es) ∙ ap₂ (λ os xs. compared k os ++ xs) (sides-map es) (all_in-map es)

pub comparisons-Certain : (e : Expr) → comparisons (V.Certain e) ≡ comparisons e
comparisons-Certain e = ap own (seen-Certain e)

pub comparisons-Known : (e : Expr) → comparisons (V.Known e) ≡ comparisons e
comparisons-Known e = ap own (seen-Known e)

pub comparisons-Over : (q : Quant) (r : RelId) (es : List Expr) → comparisons (V.Over q r es) ≡ flat_map comparisons es
comparisons-Over q r es = ap own (seen-Over q r es) ∙ all_in-map es

pub comparisons-Window : (k : WinKind) (es : List Expr) → comparisons (V.Window k es) ≡ flat_map comparisons es
comparisons-Window k es = ap own (seen-Window k es) ∙ all_in-map es

pub comparisons-Rolling : (b : Bool) (n : ℕ) (e : Expr) → comparisons (V.Rolling b n e) ≡ comparisons e
comparisons-Rolling b n e = ap own (seen-Rolling b n e)

pub comparisons-Table : (rows : List Row) (last : Expr) → comparisons (V.Table rows last) ≡ flat_map row_comparisons rows ++ comparisons last
comparisons-Table rows last = ap own (seen-Table rows last)

pub ruleset comparison_laws = (comparisons-Const, comparisons-Attr, comparisons-All, comparisons-Any, comparisons-Not, comparisons-Op, comparisons-Certain, comparisons-Known, comparisons-Over, comparisons-Window, comparisons-Rolling, comparisons-Table)
