-- The depth and the nodes of each sort of tree, as they are told.
use Rattle.std.proofs.Common.{◌≡◌, ℕ, ◌+◌, ◌<◌, Bool, List, [], ◌∷◌, ◌++◌, length, take, get_or, map, min, max, refl, ap, ◌∙◌, arith}
use Rattle.std.proofs.lemmas.List.{take_more}
use Rattle.opa_value.specs.declared.value.Value.{Value}
use Rattle.opa_model.specs.declared.ids.AttrId.{AttrId}
use Rattle.opa_model.specs.declared.ids.RelId.{RelId}
use Rattle.opa_tree.specs.declared.kinds.OpKind.{OpKind}
use Rattle.opa_tree.specs.declared.kinds.Quant.{Quant}
use Rattle.opa_tree.specs.declared.kinds.WinKind.{WinKind}
use Rattle.opa_tree.specs.declared.expr.Expr.{Expr}
use Rattle.opa_tree.specs.declared.expr.Row.{Row}
use Rattle.opa_tree.specs.declared.expr.Expr.TheVariants as V
use Rattle.opa_tree.specs.declared.expr.Expr.TheFolds.{fold-Row}
use Rattle.opa_tree.specs.Trees.{depth, highest, row_depth}
use Rattle.opa_tree.proofs.DepthLaws as tree
use Rattle.opa_tree.proofs.Folds.{fold-Const, fold-Attr, fold-All, fold-Any, fold-Not, fold-Op, fold-Certain, fold-Known, fold-Over, fold-Window, fold-Rolling, fold-Table, fold-of_row}
use Rattle.opa_sentence.specs.Measures.{total, nodes_step, nodes_row, nodes}
use Rattle.opa_sentence.specs.Rows.{row_nodes}
use Rattle.opa_io.specs.declared.limits.TheConstants.{MOST_DEPTH, MOST_NODES}

told : (n : ℕ) → min (1 + n) (MOST_DEPTH + 1) ≡ min (1 + min n (MOST_DEPTH + 1)) (MOST_DEPTH + 1)
told n = omega arith

counted : (n : ℕ) → min (1 + n) (MOST_NODES + 1) ≡ min (1 + min n (MOST_NODES + 1)) (MOST_NODES + 1)
counted n = omega arith

pub depth-Const : (v : Value) → min (depth (V.Const v)) (MOST_DEPTH + 1) ≡ 1
depth-Const v = ap (λ d. min d (MOST_DEPTH + 1)) (tree.depth-Const v)

pub nodes-Const : (v : Value) → min (nodes (V.Const v)) (MOST_NODES + 1) ≡ 1
unfolding nodes
nodes-Const v = ap (λ d. min d (MOST_NODES + 1)) (fold-Const ℕ ℕ nodes_step nodes_row v)

pub depth-Attr : (a : AttrId) → min (depth (V.Attr a)) (MOST_DEPTH + 1) ≡ 1
depth-Attr a = ap (λ d. min d (MOST_DEPTH + 1)) (tree.depth-Attr a)

pub nodes-Attr : (a : AttrId) → min (nodes (V.Attr a)) (MOST_NODES + 1) ≡ 1
unfolding nodes
nodes-Attr a = ap (λ d. min d (MOST_NODES + 1)) (fold-Attr ℕ ℕ nodes_step nodes_row a)

pub depth-All : (es : List Expr) → min (depth (V.All es)) (MOST_DEPTH + 1) ≡ min (1 + min (highest (map depth es)) (MOST_DEPTH + 1)) (MOST_DEPTH + 1)
depth-All es = ap (λ d. min d (MOST_DEPTH + 1)) (tree.depth-All es) ∙ told (highest (map depth es))

pub nodes-All : (es : List Expr) → min (nodes (V.All es)) (MOST_NODES + 1) ≡ min (1 + min (total (map nodes es)) (MOST_NODES + 1)) (MOST_NODES + 1)
unfolding nodes
nodes-All es = ap (λ d. min d (MOST_NODES + 1)) (fold-All ℕ ℕ nodes_step nodes_row es) ∙ counted (total (map nodes es))

pub depth-Any : (es : List Expr) → min (depth (V.Any es)) (MOST_DEPTH + 1) ≡ min (1 + min (highest (map depth es)) (MOST_DEPTH + 1)) (MOST_DEPTH + 1)
depth-Any es = ap (λ d. min d (MOST_DEPTH + 1)) (tree.depth-Any es) ∙ told (highest (map depth es))

pub nodes-Any : (es : List Expr) → min (nodes (V.Any es)) (MOST_NODES + 1) ≡ min (1 + min (total (map nodes es)) (MOST_NODES + 1)) (MOST_NODES + 1)
unfolding nodes
nodes-Any es = ap (λ d. min d (MOST_NODES + 1)) (fold-Any ℕ ℕ nodes_step nodes_row es) ∙ counted (total (map nodes es))

pub depth-Not : (e : Expr) → min (depth (V.Not e)) (MOST_DEPTH + 1) ≡ min (1 + min (depth e) (MOST_DEPTH + 1)) (MOST_DEPTH + 1)
depth-Not e = ap (λ d. min d (MOST_DEPTH + 1)) (tree.depth-Not e) ∙ told (depth e)

pub nodes-Not : (e : Expr) → min (nodes (V.Not e)) (MOST_NODES + 1) ≡ min (1 + min (nodes e) (MOST_NODES + 1)) (MOST_NODES + 1)
unfolding nodes
nodes-Not e = ap (λ d. min d (MOST_NODES + 1)) (fold-Not ℕ ℕ nodes_step nodes_row e) ∙ counted (nodes e)

pub depth-Op : (k : OpKind) (es : List Expr) → min (depth (V.Op k es)) (MOST_DEPTH + 1) ≡ min (1 + min (highest (map depth es)) (MOST_DEPTH + 1)) (MOST_DEPTH + 1)
depth-Op k es = ap (λ d. min d (MOST_DEPTH + 1)) (tree.depth-Op k es) ∙ told (highest (map depth es))

pub nodes-Op : (k : OpKind) (es : List Expr) → min (nodes (V.Op k es)) (MOST_NODES + 1) ≡ min (1 + min (total (map nodes es)) (MOST_NODES + 1)) (MOST_NODES + 1)
unfolding nodes
nodes-Op k es = ap (λ d. min d (MOST_NODES + 1)) (fold-Op ℕ ℕ nodes_step nodes_row k es) ∙ counted (total (map nodes es))

pub depth-Certain : (e : Expr) → min (depth (V.Certain e)) (MOST_DEPTH + 1) ≡ min (1 + min (depth e) (MOST_DEPTH + 1)) (MOST_DEPTH + 1)
depth-Certain e = ap (λ d. min d (MOST_DEPTH + 1)) (tree.depth-Certain e) ∙ told (depth e)

pub nodes-Certain : (e : Expr) → min (nodes (V.Certain e)) (MOST_NODES + 1) ≡ min (1 + min (nodes e) (MOST_NODES + 1)) (MOST_NODES + 1)
unfolding nodes
nodes-Certain e = ap (λ d. min d (MOST_NODES + 1)) (fold-Certain ℕ ℕ nodes_step nodes_row e) ∙ counted (nodes e)

pub depth-Known : (e : Expr) → min (depth (V.Known e)) (MOST_DEPTH + 1) ≡ min (1 + min (depth e) (MOST_DEPTH + 1)) (MOST_DEPTH + 1)
depth-Known e = ap (λ d. min d (MOST_DEPTH + 1)) (tree.depth-Known e) ∙ told (depth e)

pub nodes-Known : (e : Expr) → min (nodes (V.Known e)) (MOST_NODES + 1) ≡ min (1 + min (nodes e) (MOST_NODES + 1)) (MOST_NODES + 1)
unfolding nodes
nodes-Known e = ap (λ d. min d (MOST_NODES + 1)) (fold-Known ℕ ℕ nodes_step nodes_row e) ∙ counted (nodes e)

pub depth-Over : (q : Quant) (r : RelId) (es : List Expr) → min (depth (V.Over q r es)) (MOST_DEPTH + 1) ≡ min (1 + min (highest (map depth es)) (MOST_DEPTH + 1)) (MOST_DEPTH + 1)
depth-Over q r es = ap (λ d. min d (MOST_DEPTH + 1)) (tree.depth-Over q r es) ∙ told (highest (map depth es))

pub nodes-Over : (q : Quant) (r : RelId) (es : List Expr) → min (nodes (V.Over q r es)) (MOST_NODES + 1) ≡ min (1 + min (total (map nodes es)) (MOST_NODES + 1)) (MOST_NODES + 1)
unfolding nodes
nodes-Over q r es = ap (λ d. min d (MOST_NODES + 1)) (fold-Over ℕ ℕ nodes_step nodes_row q r es) ∙ counted (total (map nodes es))

pub depth-Window : (k : WinKind) (es : List Expr) → min (depth (V.Window k es)) (MOST_DEPTH + 1) ≡ min (1 + min (highest (map depth es)) (MOST_DEPTH + 1)) (MOST_DEPTH + 1)
depth-Window k es = ap (λ d. min d (MOST_DEPTH + 1)) (tree.depth-Window k es) ∙ told (highest (map depth es))

pub nodes-Window : (k : WinKind) (es : List Expr) → min (nodes (V.Window k es)) (MOST_NODES + 1) ≡ min (1 + min (total (map nodes es)) (MOST_NODES + 1)) (MOST_NODES + 1)
unfolding nodes
nodes-Window k es = ap (λ d. min d (MOST_NODES + 1)) (fold-Window ℕ ℕ nodes_step nodes_row k es) ∙ counted (total (map nodes es))

pub depth-Rolling : (b : Bool) (n : ℕ) (e : Expr) → min (depth (V.Rolling b n e)) (MOST_DEPTH + 1) ≡ min (1 + min (depth e) (MOST_DEPTH + 1)) (MOST_DEPTH + 1)
depth-Rolling b n e = ap (λ d. min d (MOST_DEPTH + 1)) (tree.depth-Rolling b n e) ∙ told (depth e)

pub nodes-Rolling : (b : Bool) (n : ℕ) (e : Expr) → min (nodes (V.Rolling b n e)) (MOST_NODES + 1) ≡ min (1 + min (nodes e) (MOST_NODES + 1)) (MOST_NODES + 1)
unfolding nodes
nodes-Rolling b n e = ap (λ d. min d (MOST_NODES + 1)) (fold-Rolling ℕ ℕ nodes_step nodes_row b n e) ∙ counted (nodes e)

told_two : (m n : ℕ) → min (1 + max m n) (MOST_DEPTH + 1) ≡ min (1 + max (min m (MOST_DEPTH + 1)) (min n (MOST_DEPTH + 1))) (MOST_DEPTH + 1)
told_two m n = omega arith

pub depth-Table : (rows : List Row) (last : Expr) → min (depth (V.Table rows last)) (MOST_DEPTH + 1) ≡ min (1 + max (min (highest (map row_depth rows)) (MOST_DEPTH + 1)) (min (depth last) (MOST_DEPTH + 1))) (MOST_DEPTH + 1)
depth-Table rows last =
    ap (λ d. min d (MOST_DEPTH + 1)) (tree.depth-Table rows last)
    ∙ told_two (highest (map row_depth rows)) (depth last)

pub rows_wide : (rows : List Row) → map (fold-Row ℕ ℕ nodes_step nodes_row) rows ≡ map row_nodes rows
unfolding nodes
rows_wide [] = refl
rows_wide (r ∷ rows) = ap (λ d. d ∷ map (fold-Row ℕ ℕ nodes_step nodes_row) rows) (fold-of_row ℕ ℕ nodes_step nodes_row r) ∙ ap (λ ds. row_nodes r ∷ ds) (rows_wide rows)

counted_two : (m n : ℕ) → min (1 + (m + n)) (MOST_NODES + 1) ≡ min (1 + min (min m (MOST_NODES + 1) + min n (MOST_NODES + 1)) (MOST_NODES + 1)) (MOST_NODES + 1)
counted_two m n = omega arith

pub nodes-Table : (rows : List Row) (last : Expr) → min (nodes (V.Table rows last)) (MOST_NODES + 1) ≡ min (1 + min (min (total (map row_nodes rows)) (MOST_NODES + 1) + min (nodes last) (MOST_NODES + 1)) (MOST_NODES + 1)) (MOST_NODES + 1)
unfolding nodes
nodes-Table rows last =
    ap (λ d. min d (MOST_NODES + 1)) (fold-Table ℕ ℕ nodes_step nodes_row rows last) ∙ ap (λ ds. min (1 + (total ds + nodes last)) (MOST_NODES + 1)) (rows_wide rows)
    ∙ counted_two (total (map row_nodes rows)) (nodes last)

deepest_last : {A : Type 0} (f : A → ℕ) (ys : List A) (x : A) → highest (map f (ys ++ x ∷ [])) ≡ max (f x) (highest (map f ys))
deepest_last f [] x = refl
deepest_last f (y ∷ ys) x = omega (arith, deepest_last f ys x)

-- one part more
pub deeper_more : {A : Type 0} (f : A → ℕ) (xs : List A) (i : ℕ) (x : A) (old new : ℕ) → i < length xs → x ≡ get_or xs i x → old ≡ min (highest (map f (take i xs))) (MOST_DEPTH + 1) → new ≡ max (min (f x) (MOST_DEPTH + 1)) old
    → new ≡ min (highest (map f (take (i + 1) xs))) (MOST_DEPTH + 1)
deeper_more f xs i x old new within is before after =
    let e = ap (λ ys. highest (map f ys)) (take_more xs i x within) ∙ deepest_last f (take i xs) (get_or xs i x) in
    omega (arith, e, before, after, ap f is)

wide_last : {A : Type 0} (f : A → ℕ) (ys : List A) (x : A) → total (map f (ys ++ x ∷ [])) ≡ total (map f ys) + f x
wide_last f [] x = omega arith
wide_last f (y ∷ ys) x = omega (arith, wide_last f ys x)

pub wider_more : {A : Type 0} (f : A → ℕ) (xs : List A) (i : ℕ) (x : A) (old new : ℕ) → i < length xs → x ≡ get_or xs i x → old ≡ min (total (map f (take i xs))) (MOST_NODES + 1) → new ≡ min (old + min (f x) (MOST_NODES + 1)) (MOST_NODES + 1)
    → new ≡ min (total (map f (take (i + 1) xs))) (MOST_NODES + 1)
wider_more f xs i x old new within is before after =
    let e = ap (λ ys. total (map f ys)) (take_more xs i x within) ∙ wide_last f (take i xs) (get_or xs i x) in
    omega (arith, e, before, after, ap f is)

pub ruleset depths = (depth-Const, depth-Attr, depth-All, depth-Any, depth-Not, depth-Op, depth-Certain, depth-Known, depth-Over, depth-Window, depth-Rolling, depth-Table)

pub ruleset sizes = (nodes-Const, nodes-Attr, nodes-All, nodes-Any, nodes-Not, nodes-Op, nodes-Certain, nodes-Known, nodes-Over, nodes-Window, nodes-Rolling, nodes-Table)
