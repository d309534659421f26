-- The operations of a tree, one level at a time.
use Rattle.std.proofs.Common.{◌≡◌, ℕ, Bool, List, [], ◌∷◌, ◌++◌, map, refl, ap, ◌∙◌}
use Rattle.std.specs.Prelude.{flat_map}
use Rattle.opa_value.specs.declared.value.Value.{Value}
use Rattle.opa_model.specs.declared.ids.AttrId.{AttrId}
use Rattle.opa_model.specs.declared.ids.RelId.{RelId}
use Rattle.opa_tree.specs.declared.kinds.OpKind.{OpKind}
use Rattle.opa_tree.specs.declared.kinds.Quant.{Quant}
use Rattle.opa_tree.specs.declared.kinds.WinKind.{WinKind}
use Rattle.opa_tree.specs.declared.expr.Expr.{Expr}
use Rattle.opa_tree.specs.declared.expr.Row.{Row}
use Rattle.opa_tree.specs.declared.expr.Expr.TheVariants as V
use Rattle.opa_tree.specs.declared.expr.Expr.TheFolds.{fold-Row}
use Rattle.opa_rules.specs.Reviewing.Operations.{operations_step, operations_of_row, operations, row_operations}
use Rattle.opa_tree.proofs.MentionLaws.{flat_map-map}
use Rattle.opa_tree.proofs.Folds.{fold-Const, fold-Attr, fold-All, fold-Any, fold-Not, fold-Op, fold-Certain, fold-Known, fold-Over, fold-Window, fold-Rolling, fold-Table, fold-of_row}

abbrev Ops : Type 0
Ops = List OpKind

pub operations-Const : (v : Value) → operations (V.Const v) ≡ []
unfolding operations
operations-Const v = fold-Const Ops Ops operations_step operations_of_row v

pub operations-Attr : (a : AttrId) → operations (V.Attr a) ≡ []
unfolding operations
operations-Attr a = fold-Attr Ops Ops operations_step operations_of_row a

pub operations-All : (es : List Expr) → operations (V.All es) ≡ flat_map operations es
unfolding operations
operations-All es = fold-All Ops Ops operations_step operations_of_row es ∙ flat_map-map operations (λ x. x) es

pub operations-Any : (es : List Expr) → operations (V.Any es) ≡ flat_map operations es
unfolding operations
operations-Any es = fold-Any Ops Ops operations_step operations_of_row es ∙ flat_map-map operations (λ x. x) es

pub operations-Not : (e : Expr) → operations (V.Not e) ≡ operations e
unfolding operations
operations-Not e = fold-Not Ops Ops operations_step operations_of_row e

pub operations-Op : (k : OpKind) (es : List Expr) → operations (V.Op k es) ≡ k ∷ flat_map operations es
unfolding operations
operations-Op k es = fold-Op Ops Ops operations_step operations_of_row k es ∙ ap (λ xs. k ∷ xs) (flat_map-map operations (λ x. x) es)

pub operations-Certain : (e : Expr) → operations (V.Certain e) ≡ operations e
unfolding operations
operations-Certain e = fold-Certain Ops Ops operations_step operations_of_row e

pub operations-Known : (e : Expr) → operations (V.Known e) ≡ operations e
unfolding operations
operations-Known e = fold-Known Ops Ops operations_step operations_of_row e

pub operations-Over : (q : Quant) (r : RelId) (es : List Expr) → operations (V.Over q r es) ≡ flat_map operations es
unfolding operations
operations-Over q r es = fold-Over Ops Ops operations_step operations_of_row q r es ∙ flat_map-map operations (λ x. x) es

pub operations-Window : (k : WinKind) (es : List Expr) → operations (V.Window k es) ≡ flat_map operations es
unfolding operations
operations-Window k es = fold-Window Ops Ops operations_step operations_of_row k es ∙ flat_map-map operations (λ x. x) es

pub operations-Rolling : (b : Bool) (n : ℕ) (e : Expr) → operations (V.Rolling b n e) ≡ operations e
unfolding operations
operations-Rolling b n e = fold-Rolling Ops Ops operations_step operations_of_row b n e

rows_operations : (rows : List Row) → flat_map (λ x. x) (map (fold-Row Ops Ops operations_step operations_of_row) rows) ≡ flat_map row_operations rows
unfolding operations
rows_operations [] = refl
rows_operations (r ∷ rows) =
    ap (λ xs. xs ++ flat_map (λ x. x) (map (fold-Row Ops Ops operations_step operations_of_row) rows)) (fold-of_row Ops Ops operations_step operations_of_row r)
    ∙ ap (λ bs. row_operations r ++ bs) (rows_operations rows)

pub operations-Table : (rows : List Row) (last : Expr) → operations (V.Table rows last) ≡ flat_map row_operations rows ++ operations last
unfolding operations
operations-Table rows last = fold-Table Ops Ops operations_step operations_of_row rows last ∙ ap (λ xs. xs ++ operations last) (rows_operations rows)

pub ruleset operations_laws = (operations-Const, operations-Attr, operations-All, operations-Any, operations-Not, operations-Op, operations-Certain, operations-Known, operations-Over, operations-Window, operations-Rolling, operations-Table)
