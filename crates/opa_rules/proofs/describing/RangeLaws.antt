-- The relations that a tree goes over, one level at a time.
use Rattle.std.proofs.Common.{◌≡◌, ◌↔◌, ℕ, ◌+◌, ◌<◌, Bool, true, List, [], ◌∷◌, ◌++◌, length, take, map, get_or, refl, sym, ap, ◌∙◌, eq-eqb}
use Rattle.std.specs.Prelude.{flat_map}
use Rattle.std.proofs.lemmas.Bool.{eqb-true}
use Rattle.std.proofs.lemmas.List.{take_more}
use Rattle.opa_value.specs.declared.value.Value.{Value}
use Rattle.opa_model.specs.declared.ids.AttrId.{AttrId}
use Rattle.opa_model.specs.declared.ids.RelId.{RelId}
use Rattle.opa_tree.specs.declared.kinds.OpKind.{OpKind}
use Rattle.opa_tree.specs.declared.kinds.Quant.{Quant}
use Rattle.opa_tree.specs.declared.kinds.WinKind.{WinKind}
use Rattle.opa_tree.specs.declared.expr.Expr.{Expr}
use Rattle.opa_tree.specs.declared.expr.Row.{Row}
use Rattle.opa_tree.specs.declared.expr.Expr.TheVariants as V
use Rattle.opa_tree.specs.declared.expr.Expr.TheFolds.{fold-Row}
use Rattle.opa_tree.specs.FirstOnes.{first_ones, with_new}
use Rattle.opa_rules.specs.Describing.Ranges.{ranged_step, ranged_row, ranged, row_ranged, is_rel}
use Rattle.opa_tree.proofs.MentionLaws.{flat_map-map}
use Rattle.opa_tree.proofs.FirstOnesLaws.{first_ones-push}
use Rattle.opa_tree.proofs.Folds.{fold-Const, fold-Attr, fold-All, fold-Any, fold-Not, fold-Op, fold-Certain, fold-Known, fold-Over, fold-Window, fold-Rolling, fold-Table, fold-of_row}

abbrev Rels : Type 0
Rels = List RelId

pub ranged-Const : (v : Value) → ranged (V.Const v) ≡ []
unfolding ranged
ranged-Const v = fold-Const Rels Rels ranged_step ranged_row v

pub ranged-Attr : (a : AttrId) → ranged (V.Attr a) ≡ []
unfolding ranged
ranged-Attr a = fold-Attr Rels Rels ranged_step ranged_row a

pub ranged-All : (es : List Expr) → ranged (V.All es) ≡ flat_map ranged es
unfolding ranged
ranged-All es = fold-All Rels Rels ranged_step ranged_row es ∙ flat_map-map ranged (λ x. x) es

pub ranged-Any : (es : List Expr) → ranged (V.Any es) ≡ flat_map ranged es
unfolding ranged
ranged-Any es = fold-Any Rels Rels ranged_step ranged_row es ∙ flat_map-map ranged (λ x. x) es

pub ranged-Not : (e : Expr) → ranged (V.Not e) ≡ ranged e
unfolding ranged
ranged-Not e = fold-Not Rels Rels ranged_step ranged_row e

pub ranged-Op : (k : OpKind) (es : List Expr) → ranged (V.Op k es) ≡ flat_map ranged es
unfolding ranged
ranged-Op k es = fold-Op Rels Rels ranged_step ranged_row k es ∙ flat_map-map ranged (λ x. x) es

pub ranged-Certain : (e : Expr) → ranged (V.Certain e) ≡ ranged e
unfolding ranged
ranged-Certain e = fold-Certain Rels Rels ranged_step ranged_row e

pub ranged-Known : (e : Expr) → ranged (V.Known e) ≡ ranged e
unfolding ranged
ranged-Known e = fold-Known Rels Rels ranged_step ranged_row e

pub ranged-Over : (q : Quant) (r : RelId) (es : List Expr) → ranged (V.Over q r es) ≡ r ∷ flat_map ranged es
unfolding ranged
ranged-Over q r es = fold-Over Rels Rels ranged_step ranged_row q r es ∙ ap (λ xs. r ∷ xs) (flat_map-map ranged (λ x. x) es)

pub ranged-Window : (k : WinKind) (es : List Expr) → ranged (V.Window k es) ≡ flat_map ranged es
unfolding ranged
ranged-Window k es = fold-Window Rels Rels ranged_step ranged_row k es ∙ flat_map-map ranged (λ x. x) es

pub ranged-Rolling : (b : Bool) (n : ℕ) (e : Expr) → ranged (V.Rolling b n e) ≡ ranged e
unfolding ranged
ranged-Rolling b n e = fold-Rolling Rels Rels ranged_step ranged_row b n e

rows_ranged : (rows : List Row) → flat_map (λ x. x) (map (fold-Row Rels Rels ranged_step ranged_row) rows) ≡ flat_map row_ranged rows
unfolding ranged
rows_ranged [] = refl
rows_ranged (r ∷ rows) =
    ap (λ xs. xs ++ flat_map (λ x. x) (map (fold-Row Rels Rels ranged_step ranged_row) rows)) (fold-of_row Rels Rels ranged_step ranged_row r)
    ∙ ap (λ bs. row_ranged r ++ bs) (rows_ranged rows)

pub ranged-Table : (rows : List Row) (last : Expr) → ranged (V.Table rows last) ≡ flat_map row_ranged rows ++ ranged last
unfolding ranged
ranged-Table rows last = fold-Table Rels Rels ranged_step ranged_row rows last ∙ ap (λ xs. xs ++ ranged last) (rows_ranged rows)

pub ruleset ranged_laws = (ranged-Const, ranged-Attr, ranged-All, ranged-Any, ranged-Not, ranged-Op, ranged-Certain, ranged-Known, ranged-Over, ranged-Window, ranged-Rolling, ranged-Table)

pub is_rel-tells : (r s : RelId) → (is_rel r s ≡ true) ↔ (r ≡ s)
is_rel-tells r s = (λ e. ap (λ n. record { 0 = n }) (eqb-true r.0 s.0 e), λ e. eq-eqb r.0 s.0 (ap (λ (x : RelId). x.0) e))

-- one relation more
pub once_more : (rels : List RelId) (i : ℕ) (d : RelId) (old new : List RelId) → i < length rels → old ≡ first_ones is_rel (take i rels) → new ≡ with_new is_rel old (get_or rels i d) → new ≡ first_ones is_rel (take (i + 1) rels)
once_more rels i d old new within before is =
    is ∙ ap (λ xs. with_new is_rel xs (get_or rels i d)) before
    ∙ sym (ap (first_ones is_rel) (take_more rels i d within) ∙ first_ones-push is_rel is_rel-tells (take i rels) (get_or rels i d))
