-- The nodes of each sort of tree.
use Rattle.std.proofs.Common.{◌≡◌, ℕ, Bool, List, [], ◌∷◌, ◌++◌, length, map, suc, refl, ap, ◌∙◌}
use Rattle.std.specs.Prelude.{flat_map}
use Rattle.opa_value.specs.declared.value.Value.{Value}
use Rattle.opa_model.specs.declared.ids.AttrId.{AttrId}
use Rattle.opa_model.specs.declared.ids.RelId.{RelId}
use Rattle.opa_case.specs.Shapes.{Shape}
use Rattle.opa_tree.specs.declared.kinds.OpKind.{OpKind}
use Rattle.opa_tree.specs.declared.kinds.Quant.{Quant}
use Rattle.opa_tree.specs.declared.kinds.WinKind.{WinKind}
use Rattle.opa_tree.specs.declared.expr.Expr.{Expr}
use Rattle.opa_tree.specs.declared.expr.Row.{Row}
use Rattle.opa_tree.specs.declared.expr.Expr.TheOpen.{Expr-F}
use Rattle.opa_tree.specs.declared.expr.Expr.TheVariants as V
use Rattle.opa_tree.specs.declared.expr.Expr.TheViews.{roll-Expr}
use Rattle.opa_tree.specs.declared.expr.Expr.TheFolds.{fold-Row, fold-roll-Expr, fold_out-Row, map-Expr}
use Rattle.opa_tree.proofs.Folds.{fold-Const, fold-Attr, fold-All, fold-Any, fold-Not, fold-Op, fold-Certain, fold-Known, fold-Over, fold-Window, fold-Rolling, fold-Table}
use Rattle.opa_tree.proofs.MentionLaws.{flat_map-map}
use Rattle.opa_mean.specs.Places.{owner_of}
use Rattle.opa_code.specs.Codes.{code, code_step, code_row, row_code, joined, leaving, chosen_rows}
use Rattle.opa_code.specs.declared.node.Decider.{Decider}
use Rattle.opa_code.specs.declared.node.Decider.TheVariants.{AtFalse, AtTrue}
use Rattle.opa_code.specs.declared.node.Node.{Node}
use Rattle.opa_code.specs.declared.node.Node.TheVariants as node

pub length_map : {X Y : Type 0} (f : X → Y) (xs : List X) → length (map f xs) ≡ length xs
length_map f [] = refl
length_map f (x ∷ xs) = ap (λ n. suc n) (length_map f xs)

module _ (s : Shape) where
  unfoldable pub row_folded : Row → List Node
  row_folded = fold-Row (List Node) (List Node) (code_step s) code_row

  pub code-roll : (x : Expr-F Expr Row) → code s (roll-Expr x) ≡ code_step s (map-Expr Expr Row (List Node) (List Node) (code s) row_folded x)
  unfolding code row_folded
  code-roll = fold-roll-Expr (List Node) (List Node) (code_step s) code_row

  pub row_folded-is : (r : Row) → row_folded r ≡ row_code s r
  unfolding code row_folded
  row_folded-is r = fold_out-Row (List Node) (List Node) (code_step s) code_row r

  joined_is : (es : List Expr) → joined (map (code s) es) ≡ flat_map (code s) es
  joined_is es = flat_map-map (code s) (λ x. x) es

  pub rows_folded : (rows : List Row) → map row_folded rows ≡ map (row_code s) rows
  rows_folded [] = refl
  rows_folded (r ∷ rows) = ap (λ x. x ∷ map row_folded rows) (row_folded-is r) ∙ ap (λ ys. row_code s r ∷ ys) (rows_folded rows)

  -- the node that takes operands says how many they are
  taking : (how : Decider) (f : ℕ → Node) (es : List Expr) → leaving how 0 (map (code s) es) (f (length (map (code s) es)) ∷ []) ≡ leaving how 0 (map (code s) es) (f (length es) ∷ [])
  taking how f es = ap (λ n. leaving how 0 (map (code s) es) (f n ∷ [])) (length_map (code s) es)

  behind : (f : ℕ → Node) (es : List Expr) → joined (map (code s) es) ++ f (length (map (code s) es)) ∷ [] ≡ flat_map (code s) es ++ f (length es) ∷ []
  behind f es = ap (λ xs. xs ++ f (length (map (code s) es)) ∷ []) (joined_is es) ∙ ap (λ n. flat_map (code s) es ++ f n ∷ []) (length_map (code s) es)

  pub code-Const : (v : Value) → code s (V.Const v) ≡ node.Const v ∷ []
  unfolding code
  code-Const v = fold-Const (List Node) (List Node) (code_step s) code_row v

  pub code-Attr : (a : AttrId) → code s (V.Attr a) ≡ node.Attr a (owner_of s a) ∷ []
  unfolding code
  code-Attr a = fold-Attr (List Node) (List Node) (code_step s) code_row a

  pub code-All : (es : List Expr) → code s (V.All es) ≡ leaving AtFalse 0 (map (code s) es) (node.All (length es) ∷ [])
  unfolding code
  code-All es = fold-All (List Node) (List Node) (code_step s) code_row es ∙ taking AtFalse node.All es

  pub code-Any : (es : List Expr) → code s (V.Any es) ≡ leaving AtTrue 0 (map (code s) es) (node.Any (length es) ∷ [])
  unfolding code
  code-Any es = fold-Any (List Node) (List Node) (code_step s) code_row es ∙ taking AtTrue node.Any es

  pub code-Not : (e : Expr) → code s (V.Not e) ≡ code s e ++ node.Not ∷ []
  unfolding code
  code-Not e = fold-Not (List Node) (List Node) (code_step s) code_row e

  pub code-Op : (k : OpKind) (es : List Expr) → code s (V.Op k es) ≡ flat_map (code s) es ++ node.Op k (length es) ∷ []
  unfolding code
  code-Op k es = fold-Op (List Node) (List Node) (code_step s) code_row k es ∙ behind (node.Op k) es

  pub code-Certain : (e : Expr) → code s (V.Certain e) ≡ code s e ++ node.Certain ∷ []
  unfolding code
  code-Certain e = fold-Certain (List Node) (List Node) (code_step s) code_row e

  pub code-Known : (e : Expr) → code s (V.Known e) ≡ code s e ++ node.Known ∷ []
  unfolding code
  code-Known e = fold-Known (List Node) (List Node) (code_step s) code_row e

  pub code-Over : (q : Quant) (r : RelId) (es : List Expr) → code s (V.Over q r es) ≡ node.Over q r (s.source r) (s.target r) (length (flat_map (code s) es)) ∷ flat_map (code s) es
  unfolding code
  code-Over q r es = fold-Over (List Node) (List Node) (code_step s) code_row q r es ∙ ap (λ xs. node.Over q r (s.source r) (s.target r) (length xs) ∷ xs) (joined_is es)

  pub code-Window : (k : WinKind) (es : List Expr) → code s (V.Window k es) ≡ flat_map (code s) es ++ node.Window k (length es) ∷ []
  unfolding code
  code-Window k es = fold-Window (List Node) (List Node) (code_step s) code_row k es ∙ behind (node.Window k) es

  pub code-Rolling : (b : Bool) (n : ℕ) (e : Expr) → code s (V.Rolling b n e) ≡ code s e ++ node.Rolling b n ∷ []
  unfolding code
  code-Rolling b n e = fold-Rolling (List Node) (List Node) (code_step s) code_row b n e

  pub code-Table : (rows : List Row) (last : Expr) → code s (V.Table rows last) ≡ chosen_rows (map (row_code s) rows) (code s last)
  unfolding code row_folded
  code-Table rows last = fold-Table (List Node) (List Node) (code_step s) code_row rows last ∙ ap (λ xs. chosen_rows xs (code s last)) (rows_folded rows)

pub ruleset code_laws = (code-Const, code-Attr, code-All, code-Any, code-Not, code-Op, code-Certain, code-Known, code-Over, code-Window, code-Rolling, code-Table)
