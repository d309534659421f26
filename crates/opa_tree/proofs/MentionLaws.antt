-- What a tree mentions, one level at a time.
use Rattle.std.proofs.Common.{◌≡◌, ◌↔◌, ℕ, ◌+◌, ◌<◌, Bool, true, List, [], ◌∷◌, ◌++◌, length, take, map, get_or, refl, sym, ap, ◌∙◌, eq-eqb}
use Rattle.std.specs.Prelude.{flat_map}
use Rattle.std.proofs.lemmas.Bool.{eqb-true}
use Rattle.std.proofs.lemmas.List.{take_more}
use Rattle.opa_value.specs.declared.value.Value.{Value}
use Rattle.opa_model.specs.declared.ids.AttrId.{AttrId}
use Rattle.opa_model.specs.declared.ids.RelId.{RelId}
use Rattle.opa_tree.specs.declared.kinds.OpKind.{OpKind}
use Rattle.opa_tree.specs.declared.kinds.Quant.{Quant}
use Rattle.opa_tree.specs.declared.kinds.WinKind.{WinKind}
use Rattle.opa_tree.specs.declared.expr.Expr.{Expr}
use Rattle.opa_tree.specs.declared.expr.Row.{Row}
use Rattle.opa_tree.specs.declared.expr.Expr.TheVariants as V
use Rattle.opa_tree.specs.declared.expr.Expr.TheFolds.{fold-Row}
use Rattle.opa_tree.specs.FirstOnes.{first_ones, with_new}
use Rattle.opa_tree.specs.Mentions.{mentioned_step, mentioned_row, mentioned, row_mentioned, is_attr}
use Rattle.opa_tree.proofs.FirstOnesLaws.{first_ones-push}
use Rattle.opa_tree.proofs.Folds.{fold-Const, fold-Attr, fold-All, fold-Any, fold-Not, fold-Op, fold-Certain, fold-Known, fold-Over, fold-Window, fold-Rolling, fold-Table, fold-of_row}

abbrev Attrs : Type 0
Attrs = List AttrId

pub flat_map-map : {X Y A : Type 0} (f : X → Y) (g : Y → List A) (xs : List X) → flat_map g (map f xs) ≡ flat_map (λ x. g (f x)) xs
flat_map-map f g [] = refl
flat_map-map f g (x ∷ xs) = ap (λ ys. g (f x) ++ ys) (flat_map-map f g xs)

pub mentioned-Const : (v : Value) → mentioned (V.Const v) ≡ []
unfolding mentioned
mentioned-Const v = fold-Const Attrs Attrs mentioned_step mentioned_row v

pub mentioned-Attr : (a : AttrId) → mentioned (V.Attr a) ≡ a ∷ []
unfolding mentioned
mentioned-Attr a = fold-Attr Attrs Attrs mentioned_step mentioned_row a

pub mentioned-All : (es : List Expr) → mentioned (V.All es) ≡ flat_map mentioned es
unfolding mentioned
mentioned-All es = fold-All Attrs Attrs mentioned_step mentioned_row es ∙ flat_map-map mentioned (λ x. x) es

pub mentioned-Any : (es : List Expr) → mentioned (V.Any es) ≡ flat_map mentioned es
unfolding mentioned
mentioned-Any es = fold-Any Attrs Attrs mentioned_step mentioned_row es ∙ flat_map-map mentioned (λ x. x) es

pub mentioned-Not : (e : Expr) → mentioned (V.Not e) ≡ mentioned e
unfolding mentioned
mentioned-Not e = fold-Not Attrs Attrs mentioned_step mentioned_row e

pub mentioned-Op : (k : OpKind) (es : List Expr) → mentioned (V.Op k es) ≡ flat_map mentioned es
unfolding mentioned
mentioned-Op k es = fold-Op Attrs Attrs mentioned_step mentioned_row k es ∙ flat_map-map mentioned (λ x. x) es

pub mentioned-Certain : (e : Expr) → mentioned (V.Certain e) ≡ mentioned e
unfolding mentioned
mentioned-Certain e = fold-Certain Attrs Attrs mentioned_step mentioned_row e

pub mentioned-Known : (e : Expr) → mentioned (V.Known e) ≡ mentioned e
unfolding mentioned
mentioned-Known e = fold-Known Attrs Attrs mentioned_step mentioned_row e

pub mentioned-Over : (q : Quant) (r : RelId) (es : List Expr) → mentioned (V.Over q r es) ≡ flat_map mentioned es
unfolding mentioned
mentioned-Over q r es = fold-Over Attrs Attrs mentioned_step mentioned_row q r es ∙ flat_map-map mentioned (λ x. x) es

pub mentioned-Window : (k : WinKind) (es : List Expr) → mentioned (V.Window k es) ≡ flat_map mentioned es
unfolding mentioned
mentioned-Window k es = fold-Window Attrs Attrs mentioned_step mentioned_row k es ∙ flat_map-map mentioned (λ x. x) es

pub mentioned-Rolling : (b : Bool) (n : ℕ) (e : Expr) → mentioned (V.Rolling b n e) ≡ mentioned e
unfolding mentioned
mentioned-Rolling b n e = fold-Rolling Attrs Attrs mentioned_step mentioned_row b n e

rows_mentioned : (rows : List Row) → flat_map (λ x. x) (map (fold-Row Attrs Attrs mentioned_step mentioned_row) rows) ≡ flat_map row_mentioned rows
unfolding mentioned
rows_mentioned [] = refl
rows_mentioned (r ∷ rows) =
    ap (λ xs. xs ++ flat_map (λ x. x) (map (fold-Row Attrs Attrs mentioned_step mentioned_row) rows)) (fold-of_row Attrs Attrs mentioned_step mentioned_row r)
    ∙ ap (λ bs. row_mentioned r ++ bs) (rows_mentioned rows)

pub mentioned-Table : (rows : List Row) (last : Expr) → mentioned (V.Table rows last) ≡ flat_map row_mentioned rows ++ mentioned last
unfolding mentioned
mentioned-Table rows last = fold-Table Attrs Attrs mentioned_step mentioned_row rows last ∙ ap (λ xs. xs ++ mentioned last) (rows_mentioned rows)

pub ruleset mentioned_laws = (mentioned-Const, mentioned-Attr, mentioned-All, mentioned-Any, mentioned-Not, mentioned-Op, mentioned-Certain, mentioned-Known, mentioned-Over, mentioned-Window, mentioned-Rolling, mentioned-Table)

pub is_attr-tells : (a b : AttrId) → (is_attr a b ≡ true) ↔ (a ≡ b)
is_attr-tells a b = (λ e. ap (λ n. record { 0 = n }) (eqb-true a.0 b.0 e), λ e. eq-eqb a.0 b.0 (ap (λ (x : AttrId). x.0) e))

-- one attribute more
pub once_more : (attrs : List AttrId) (i : ℕ) (d : AttrId) (old new : List AttrId) → i < length attrs → old ≡ first_ones is_attr (take i attrs) → new ≡ with_new is_attr old (get_or attrs i d) → new ≡ first_ones is_attr (take (i + 1) attrs)
once_more attrs i d old new within before is =
    is ∙ ap (λ xs. with_new is_attr xs (get_or attrs i d)) before
    ∙ sym (ap (first_ones is_attr) (take_more attrs i d within) ∙ first_ones-push is_attr is_attr-tells (take i attrs) (get_or attrs i d))
