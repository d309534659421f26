-- The uses of each sort of tree.
use Rattle.std.proofs.Common.{◌≡◌, ℕ, Bool, true, false, cond, List, [], ◌∷◌, ◌++◌, map, Some, refl, sym, ◌∙◌, ap}
use Rattle.std.specs.Prelude.{find, flat_map}
use Rattle.opa_value.specs.declared.value.Value.{Value}
use Rattle.opa_value.specs.Truth.{is_true, is_false}
use Rattle.opa_model.specs.declared.ids.AttrId.{AttrId}
use Rattle.opa_model.specs.declared.ids.RelId.{RelId}
use Rattle.opa_case.specs.Shapes.{Shape}
use Rattle.opa_cells.specs.declared.instance.InstanceId.{InstanceId}
use Rattle.opa_tree.specs.declared.kinds.OpKind.{OpKind}
use Rattle.opa_tree.specs.declared.kinds.Quant.{Quant}
use Rattle.opa_tree.specs.declared.kinds.WinKind.{WinKind}
use Rattle.opa_tree.specs.declared.expr.Expr.{Expr}
use Rattle.opa_tree.specs.declared.expr.Row.{Row}
use Rattle.opa_tree.specs.declared.expr.Expr.TheOpen.{Expr-F, Const, Attr, All, Any, Not, Op, Certain, Known, Over, Window, Rolling, Table}
use Rattle.opa_tree.specs.declared.expr.Expr.TheVariants as V
use Rattle.opa_tree.specs.declared.expr.Expr.TheViews.{roll-Expr, out-Row}
use Rattle.opa_tree.specs.declared.expr.Expr.TheFolds.{map-Expr, para-Row, para-roll-Expr, para-roll-Row}
use Rattle.opa_mean.specs.Looks.{Look}
use Rattle.opa_mean.specs.Meaning.{value}
use Rattle.opa_mean.specs.Places.{owner_of, place}
use Rattle.opa_mean.specs.Uses.{Use, Point, Listed, Uses, Used, RowUses, RowUsed, found_or, first_or_all, at_place_uses, after_cond, last_days_uses, over_uses, window_uses, table_uses, uses_step, uses_row, uses}
use Rattle.opa_mean.specs.PartUses.{rows_uses}

-- over things that are made of others
flat-map : {X Y : Type 0} (f : X → Y) (u : Y → List Use) (xs : List X) → flat_map u (map f xs) ≡ flat_map (λ x. u (f x)) xs
flat-map f u [] = refl
flat-map f u (x ∷ xs) = ap (λ us. u (f x) ++ us) (flat-map f u xs)

found-map : {X Y : Type 0} (f : X → Y) (p : Y → Bool) (u : Y → List Use) (rest : List Use) (xs : List X) → found_or (find p (map f xs)) u rest ≡ found_or (find (λ x. p (f x)) xs) (λ x. u (f x)) rest
found-map f p u rest [] = refl
found-map f p u rest (x ∷ xs) = go (p (f x)) (found-map f p u rest xs)
  where
    go : (b : Bool) → found_or (find p (map f xs)) u rest ≡ found_or (find (λ x. p (f x)) xs) (λ x. u (f x)) rest → found_or (cond b (Some (f x)) (find p (map f xs))) u rest ≡ found_or (cond b (Some x) (find (λ x. p (f x)) xs)) (λ x. u (f x)) rest
    go true e = refl
    go false e = e

first-map : {X Y : Type 0} (f : X → Y) (p : Y → Bool) (u : Y → List Use) (xs : List X) → first_or_all p u (map f xs) ≡ first_or_all (λ x. p (f x)) (λ x. u (f x)) xs
first-map f p u xs = found-map f p u (flat_map u (map f xs)) xs ∙ ap (found_or (find (λ x. p (f x)) xs) (λ x. u (f x))) (flat-map f u xs)

module _ (s : Shape) (l : Look) where
  -- a tree with its uses
  abbrev pub with_uses : Expr → Used
  with_uses e = (e, uses s l e)

  unfoldable pub row_uses : Row → RowUses
  row_uses = para-Row Uses RowUses (uses_step s l) (uses_row s l)

  pub uses-roll : (x : Expr-F Expr Row) → uses s l (roll-Expr x) ≡ uses_step s l (map-Expr Expr Row Used RowUsed (λ e. (e, uses s l e)) (λ r. (r, row_uses r)) x)
  unfolding uses row_uses
  uses-roll = para-roll-Expr Uses RowUses (uses_step s l) (uses_row s l)

  pub row_uses-is : (r : Row) → row_uses r ≡ record { cond = uses s l r.cond; value = uses s l r.value }
  unfolding uses row_uses
  row_uses-is r = para-roll-Row Uses RowUses (uses_step s l) (uses_row s l) (out-Row r)

  at : (x : Expr-F Expr Row) (e : Expr) → roll-Expr x ≡ e → (enclosing : List InstanceId) (d : ℕ) → uses s l e enclosing d ≡ uses_step s l (map-Expr Expr Row Used RowUsed (λ e. (e, uses s l e)) (λ r. (r, row_uses r)) x) enclosing d
  at x e r enclosing d = ap (λ e. uses s l e enclosing d) (sym r) ∙ ap (λ (f : Uses). f enclosing d) (uses-roll x)

  pub uses-Const : (v : Value) (enclosing : List InstanceId) (d : ℕ) → uses s l (V.Const v) enclosing d ≡ []
  uses-Const v = at (Const v) _ (V.rolls-Const v)

  pub uses-Attr : (a : AttrId) (enclosing : List InstanceId) (d : ℕ) → uses s l (V.Attr a) enclosing d ≡ at_place_uses (place l.container enclosing (owner_of s a)) (λ i. Point a i d ∷ [])
  uses-Attr a = at (Attr a) _ (V.rolls-Attr a)

  pub uses-All : (es : List Expr) (enclosing : List InstanceId) (d : ℕ) → uses s l (V.All es) enclosing d ≡ first_or_all (λ e. is_false (value s l e enclosing d)) (λ e. uses s l e enclosing d) es
  uses-All es enclosing d = at (All es) _ (V.rolls-All es) enclosing d ∙ first-map with_uses (λ x. is_false (value s l x.0 enclosing d)) (λ x. x.1 enclosing d) es

  pub uses-Any : (es : List Expr) (enclosing : List InstanceId) (d : ℕ) → uses s l (V.Any es) enclosing d ≡ first_or_all (λ e. is_true (value s l e enclosing d)) (λ e. uses s l e enclosing d) es
  uses-Any es enclosing d = at (Any es) _ (V.rolls-Any es) enclosing d ∙ first-map with_uses (λ x. is_true (value s l x.0 enclosing d)) (λ x. x.1 enclosing d) es

  pub uses-Not : (e : Expr) (enclosing : List InstanceId) (d : ℕ) → uses s l (V.Not e) enclosing d ≡ uses s l e enclosing d
  uses-Not e = at (Not e) _ (V.rolls-Not e)

  pub uses-Op : (k : OpKind) (es : List Expr) (enclosing : List InstanceId) (d : ℕ) → uses s l (V.Op k es) enclosing d ≡ flat_map (λ e. uses s l e enclosing d) es
  uses-Op k es enclosing d = at (Op k es) _ (V.rolls-Op k es) enclosing d ∙ flat-map with_uses (λ x. x.1 enclosing d) es

  pub uses-Certain : (e : Expr) (enclosing : List InstanceId) (d : ℕ) → uses s l (V.Certain e) enclosing d ≡ uses s l e enclosing d
  uses-Certain e = at (Certain e) _ (V.rolls-Certain e)

  pub uses-Known : (e : Expr) (enclosing : List InstanceId) (d : ℕ) → uses s l (V.Known e) enclosing d ≡ uses s l e enclosing d
  uses-Known e = at (Known e) _ (V.rolls-Known e)

  pub uses-Over : (q : Quant) (r : RelId) (es : List Expr) (enclosing : List InstanceId) (d : ℕ) → uses s l (V.Over q r es) enclosing d ≡ at_place_uses (place l.container enclosing (s.source r)) (λ i. Listed r i ∷ over_uses s l q (s.target r) (l.members r i) (map with_uses es) enclosing d)
  uses-Over q r es = at (Over q r es) _ (V.rolls-Over q r es)

  pub uses-Window : (k : WinKind) (es : List Expr) (enclosing : List InstanceId) (d : ℕ) → uses s l (V.Window k es) enclosing d ≡ window_uses s l (map with_uses es) enclosing d
  uses-Window k es = at (Window k es) _ (V.rolls-Window k es)

  pub uses-Rolling : (b : Bool) (n : ℕ) (e : Expr) (enclosing : List InstanceId) (d : ℕ) → uses s l (V.Rolling b n e) enclosing d ≡ last_days_uses n (uses s l e enclosing) d
  uses-Rolling b n e = at (Rolling b n e) _ (V.rolls-Rolling b n e)

  rows : (rs : List Row) (last : Uses) (enclosing : List InstanceId) (d : ℕ) → table_uses s l (map (λ r. (r, row_uses r)) rs) last enclosing d ≡ rows_uses s l rs last enclosing d
  rows [] last enclosing d = refl
  rows (r ∷ rs) last enclosing d =
      ap (λ (a : RowUses). a.cond enclosing d ++ after_cond (value s l r.cond enclosing d) (a.value enclosing d) (table_uses s l (map (λ r. (r, row_uses r)) rs) last enclosing d)) (row_uses-is r)
      ∙ ap (λ us. uses s l r.cond enclosing d ++ after_cond (value s l r.cond enclosing d) (uses s l r.value enclosing d) us) (rows rs last enclosing d)

  pub uses-Table : (rs : List Row) (last : Expr) (enclosing : List InstanceId) (d : ℕ) → uses s l (V.Table rs last) enclosing d ≡ rows_uses s l rs (uses s l last) enclosing d
  uses-Table rs last enclosing d = at (Table rs last) _ (V.rolls-Table rs last) enclosing d ∙ rows rs (uses s l last) enclosing d

pub ruleset use_laws = (uses-Const, uses-Attr, uses-All, uses-Any, uses-Not, uses-Op, uses-Certain, uses-Known, uses-Over, uses-Window, uses-Rolling, uses-Table)
