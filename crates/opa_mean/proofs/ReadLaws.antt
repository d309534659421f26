-- What each sort of tree can look at.
use Rattle.std.proofs.Common.{◌≡◌, ℕ, Bool, List, [], ◌∷◌, ◌++◌, Option, None, Some, length, refl, sym, ◌∙◌, ap, arith}
use Rattle.std.specs.Prelude.{map, flat_map}
use Rattle.opa_value.specs.declared.value.Value.{Value}
use Rattle.opa_model.specs.declared.ids.AttrId.{AttrId}
use Rattle.opa_model.specs.declared.ids.RelId.{RelId}
use Rattle.opa_case.specs.Shapes.{Shape}
use Rattle.opa_cells.specs.declared.instance.InstanceId.{InstanceId}
use Rattle.opa_cells.specs.Instances.{named}
use Rattle.opa_tree.specs.declared.kinds.OpKind.{OpKind}
use Rattle.opa_tree.specs.declared.kinds.Quant.{Quant}
use Rattle.opa_tree.specs.declared.kinds.WinKind.{WinKind}
use Rattle.opa_tree.specs.declared.expr.Expr.{Expr}
use Rattle.opa_tree.specs.declared.expr.Row.{Row}
use Rattle.opa_tree.specs.declared.expr.Expr.TheOpen.{Expr-F, Const, Attr, All, Any, Not, Op, Certain, Known, Over, Window, Rolling, Table}
use Rattle.opa_tree.specs.declared.expr.Expr.TheVariants as V
use Rattle.opa_tree.specs.declared.expr.Expr.TheViews.{roll-Expr}
use Rattle.opa_tree.specs.declared.expr.Expr.TheFolds.{map-Expr, fold-Row, fold-roll-Expr, fold_out-Row}
use Rattle.opa_case.specs.declared.question.Question.TheVariants as question
use Rattle.opa_case.specs.Live.{Lists}
use Rattle.opa_mean.specs.Places.{owner_of, place}
use Rattle.opa_mean.specs.Reads.{Reads, at_place_reads, all_reads, listed_reads, reads_step, reads_row, reads, row_reads, trees_reads, rows_reads}

module _ (s : Shape) (members : Lists) (container : InstanceId → Option InstanceId) where
  unfoldable its_row : Row → Reads
  its_row = fold-Row Reads Reads (reads_step s members container) (reads_row s members container)

  roll : (x : Expr-F Expr Row) → reads s members container (roll-Expr x) ≡ reads_step s members container (map-Expr Expr Row Reads Reads (reads s members container) its_row x)
  unfolding reads its_row
  roll = fold-roll-Expr Reads Reads (reads_step s members container) (reads_row s members container)

  its_row-is : (r : Row) → its_row r ≡ row_reads s members container r
  unfolding reads its_row
  its_row-is r = fold_out-Row Reads Reads (reads_step s members container) (reads_row s members container) r

  at : (x : Expr-F Expr Row) (e : Expr) → roll-Expr x ≡ e → (enclosing : List InstanceId) → reads s members container e enclosing ≡ reads_step s members container (map-Expr Expr Row Reads Reads (reads s members container) its_row x) enclosing
  at x e r enclosing = ap (λ e. reads s members container e enclosing) (sym r) ∙ ap (λ (f : Reads). f enclosing) (roll x)

  each : (es : List Expr) (enclosing : List InstanceId) → all_reads (map (reads s members container) es) enclosing ≡ trees_reads s members container es enclosing
  each [] enclosing = refl
  each (e ∷ es) enclosing = ap (λ qs. reads s members container e enclosing ++ qs) (each es enclosing)

  rows : (rs : List Row) (enclosing : List InstanceId) → all_reads (map its_row rs) enclosing ≡ rows_reads s members container rs enclosing
  rows [] enclosing = refl
  rows (r ∷ rs) enclosing = ap (λ (f : Reads). f enclosing ++ all_reads (map its_row rs) enclosing) (its_row-is r) ∙ ap (λ qs. row_reads s members container r enclosing ++ qs) (rows rs enclosing)

  listed : (es : List Expr) (t : ℕ) (enclosing : List InstanceId) (o : Option (List (List ℕ))) → listed_reads o (λ n. all_reads (map (reads s members container) es) (named t n ∷ enclosing)) ≡ listed_reads o (λ n. trees_reads s members container es (named t n ∷ enclosing))
  listed es t enclosing None = refl
  listed es t enclosing (Some names) = go names
    where
      go : (names : List (List ℕ)) → flat_map (λ n. all_reads (map (reads s members container) es) (named t n ∷ enclosing)) names ≡ flat_map (λ n. trees_reads s members container es (named t n ∷ enclosing)) names
      go [] = refl
      go (n ∷ names) = ap (λ qs. qs ++ flat_map (λ n. all_reads (map (reads s members container) es) (named t n ∷ enclosing)) names) (each es (named t n ∷ enclosing)) ∙ ap (λ qs. trees_reads s members container es (named t n ∷ enclosing) ++ qs) (go names)

  pub reads-Const : (v : Value) (enclosing : List InstanceId) → reads s members container (V.Const v) enclosing ≡ []
  reads-Const v = at (Const v) _ (V.rolls-Const v)

  pub reads-Attr : (a : AttrId) (enclosing : List InstanceId) → reads s members container (V.Attr a) enclosing ≡ at_place_reads (place container enclosing (owner_of s a)) (λ i. question.Attr a i ∷ [])
  reads-Attr a = at (Attr a) _ (V.rolls-Attr a)

  pub reads-All : (es : List Expr) (enclosing : List InstanceId) → reads s members container (V.All es) enclosing ≡ trees_reads s members container es enclosing
  reads-All es enclosing = at (All es) _ (V.rolls-All es) enclosing ∙ each es enclosing

  pub reads-Any : (es : List Expr) (enclosing : List InstanceId) → reads s members container (V.Any es) enclosing ≡ trees_reads s members container es enclosing
  reads-Any es enclosing = at (Any es) _ (V.rolls-Any es) enclosing ∙ each es enclosing

  pub reads-Not : (e : Expr) (enclosing : List InstanceId) → reads s members container (V.Not e) enclosing ≡ reads s members container e enclosing
  reads-Not e = at (Not e) _ (V.rolls-Not e)

  pub reads-Op : (k : OpKind) (es : List Expr) (enclosing : List InstanceId) → reads s members container (V.Op k es) enclosing ≡ trees_reads s members container es enclosing
  reads-Op k es enclosing = at (Op k es) _ (V.rolls-Op k es) enclosing ∙ each es enclosing

  pub reads-Certain : (e : Expr) (enclosing : List InstanceId) → reads s members container (V.Certain e) enclosing ≡ reads s members container e enclosing
  reads-Certain e = at (Certain e) _ (V.rolls-Certain e)

  pub reads-Known : (e : Expr) (enclosing : List InstanceId) → reads s members container (V.Known e) enclosing ≡ reads s members container e enclosing
  reads-Known e = at (Known e) _ (V.rolls-Known e)

  pub reads-Over : (q : Quant) (r : RelId) (es : List Expr) (enclosing : List InstanceId) → reads s members container (V.Over q r es) enclosing
      ≡ at_place_reads (place container enclosing (s.source r)) (λ i. question.Members r i ∷ listed_reads (members r i) (λ n. trees_reads s members container es (named (s.target r) n ∷ enclosing)))
  reads-Over q r es enclosing = at (Over q r es) _ (V.rolls-Over q r es) enclosing ∙ go (place container enclosing (s.source r))
    where
      go : (o : Option InstanceId) → at_place_reads o (λ i. question.Members r i ∷ listed_reads (members r i) (λ n. all_reads (map (reads s members container) es) (named (s.target r) n ∷ enclosing)))
          ≡ at_place_reads o (λ i. question.Members r i ∷ listed_reads (members r i) (λ n. trees_reads s members container es (named (s.target r) n ∷ enclosing)))
      go None = refl
      go (Some i) = ap (λ qs. question.Members r i ∷ qs) (listed es (s.target r) enclosing (members r i))

  pub reads-Window : (k : WinKind) (es : List Expr) (enclosing : List InstanceId) → reads s members container (V.Window k es) enclosing ≡ trees_reads s members container es enclosing
  reads-Window k es enclosing = at (Window k es) _ (V.rolls-Window k es) enclosing ∙ each es enclosing

  pub reads-Rolling : (b : Bool) (n : ℕ) (e : Expr) (enclosing : List InstanceId) → reads s members container (V.Rolling b n e) enclosing ≡ reads s members container e enclosing
  reads-Rolling b n e = at (Rolling b n e) _ (V.rolls-Rolling b n e)

  pub reads-Table : (rs : List Row) (last : Expr) (enclosing : List InstanceId) → reads s members container (V.Table rs last) enclosing ≡ rows_reads s members container rs enclosing ++ reads s members container last enclosing
  reads-Table rs last enclosing = at (Table rs last) _ (V.rolls-Table rs last) enclosing ∙ ap (λ qs. qs ++ reads s members container last enclosing) (rows rs enclosing)

  -- no tree looks at anything, whatever is listed
  pub no_tree_reads : (es : List Expr) (t : ℕ) (names : List (List ℕ)) (enclosing : List InstanceId) → length es ≡ 0 → flat_map (λ n. trees_reads s members container es (named t n ∷ enclosing)) names ≡ []
  no_tree_reads [] t [] enclosing none = refl
  no_tree_reads [] t (n ∷ names) enclosing none = no_tree_reads [] t names enclosing none
  no_tree_reads (e ∷ es) t names enclosing none = absurd (omega (arith, none))

pub ruleset read_laws = (reads-Const, reads-Attr, reads-All, reads-Any, reads-Not, reads-Op, reads-Certain, reads-Known, reads-Over, reads-Window, reads-Rolling, reads-Table)
