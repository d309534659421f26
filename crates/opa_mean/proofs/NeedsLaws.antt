-- What each sort of tree needs.
use Rattle.std.proofs.Common.{◌≡◌, ℕ, Bool, List, [], ◌∷◌, ◌++◌, Option, None, Some, refl, sym, ◌∙◌, ap}
use Rattle.std.specs.Prelude.{map, flat_map}
use Rattle.opa_value.specs.declared.value.Value.{Value}
use Rattle.opa_model.specs.declared.ids.AttrId.{AttrId}
use Rattle.opa_model.specs.declared.ids.RelId.{RelId}
use Rattle.opa_case.specs.Shapes.{Shape}
use Rattle.opa_cells.specs.declared.instance.InstanceId.{InstanceId}
use Rattle.opa_cells.specs.Instances.{named}
use Rattle.opa_tree.specs.declared.kinds.OpKind.{OpKind}
use Rattle.opa_tree.specs.declared.kinds.Quant.{Quant}
use Rattle.opa_tree.specs.declared.kinds.Quant.TheVariants as quant
use Rattle.opa_tree.specs.declared.kinds.WinKind.{WinKind}
use Rattle.opa_tree.specs.declared.expr.Expr.{Expr}
use Rattle.opa_tree.specs.declared.expr.Row.{Row}
use Rattle.opa_tree.specs.declared.expr.Expr.TheOpen.{Expr-F, Const, Attr, All, Any, Not, Op, Certain, Known, Over, Window, Rolling, Table}
use Rattle.opa_tree.specs.declared.expr.Expr.TheVariants as V
use Rattle.opa_tree.specs.declared.expr.Expr.TheViews.{roll-Expr, out-Row}
use Rattle.opa_tree.specs.declared.expr.Expr.TheFolds.{map-Expr, para-Row, para-roll-Expr, para-roll-Row}
use Rattle.opa_mean.specs.Looks.{Look}
use Rattle.opa_mean.specs.Meaning.{value}
use Rattle.opa_mean.specs.Needs.{cond_needs, over_needs, part_needs, item_needs, window_needs, table_needs, needs_step, needs_row, needs}
use Rattle.opa_mean.specs.Places.{owner_of, place}
use Rattle.opa_mean.specs.Uses.{Use, Uses, Used, RowUses, RowUsed, at_place_uses, last_days_uses}
use Rattle.opa_mean.specs.PartNeeds.{open_needs, member_needs, span_needs, rows_needs}

module _ (s : Shape) (l : Look) (list_need : RelId → InstanceId → Use) (at_point : AttrId → InstanceId → ℕ → List Use) where
  abbrev whole : Expr → Uses
  whole = needs s l list_need at_point

  abbrev own : Expr → Uses
  own = open_needs s l list_need at_point

  unfoldable pub row_needs : Row → RowUses
  row_needs = para-Row Uses RowUses (needs_step s l list_need at_point) (needs_row s l list_need at_point)

  abbrev paired : Expr → Used
  paired e = (e, whole e)

  abbrev row_paired : Row → RowUsed
  row_paired r = (r, row_needs r)

  pub needs-roll : (x : Expr-F Expr Row) → needs s l list_need at_point (roll-Expr x) ≡ needs_step s l list_need at_point (map-Expr Expr Row Used RowUsed (λ e. (e, needs s l list_need at_point e)) (λ r. (r, row_needs r)) x)
  unfolding needs row_needs
  needs-roll = para-roll-Expr Uses RowUses (needs_step s l list_need at_point) (needs_row s l list_need at_point)

  pub row_needs-is : (r : Row) → row_needs r ≡ record { cond = needs s l list_need at_point r.cond; value = needs s l list_need at_point r.value }
  unfolding needs row_needs
  row_needs-is r = para-roll-Row Uses RowUses (needs_step s l list_need at_point) (needs_row s l list_need at_point) (out-Row r)

  at : (x : Expr-F Expr Row) (e : Expr) → roll-Expr x ≡ e → (enclosing : List InstanceId) (d : ℕ) → whole e enclosing d ≡ needs_step s l list_need at_point (map-Expr Expr Row Used RowUsed paired row_paired x) enclosing d
  at x e r enclosing d = ap (λ e. whole e enclosing d) (sym r) ∙ ap (λ (f : Uses). f enclosing d) (needs-roll x)

  each : (es : List Expr) (enclosing : List InstanceId) (d : ℕ) → flat_map (λ (x : Used). part_needs s l list_need at_point x enclosing d) (map paired es) ≡ flat_map (λ e. own e enclosing d) es
  each [] enclosing d = refl
  each (e ∷ es) enclosing d = ap (λ us. own e enclosing d ++ us) (each es enclosing d)

  member-is : (q : Quant) (es : List Expr) (enclosing : List InstanceId) (d : ℕ) → item_needs s l list_need at_point q (map paired es) enclosing d ≡ member_needs s l list_need at_point q es enclosing d
  member-is quant.SumIf [] enclosing d = refl
  member-is quant.SumIf (x ∷ []) enclosing d = refl
  member-is quant.SumIf (x ∷ y ∷ []) enclosing d = refl
  member-is quant.SumIf (x ∷ y ∷ z ∷ zs) enclosing d = refl
  member-is q [] enclosing d = refl
  member-is q (x ∷ []) enclosing d = refl
  member-is q (x ∷ y ∷ zs) enclosing d = refl

  listed : (u : Use) (q : Quant) (es : List Expr) (t : ℕ) (enclosing : List InstanceId) (d : ℕ) (o : Option (List (List ℕ)))
      → over_needs u (λ n. item_needs s l list_need at_point q (map paired es) (named t n ∷ enclosing) d) o ≡ over_needs u (λ n. member_needs s l list_need at_point q es (named t n ∷ enclosing) d) o
  listed u q es t enclosing d None = refl
  listed u q es t enclosing d (Some names) = go names
    where
      go : (names : List (List ℕ)) → flat_map (λ n. item_needs s l list_need at_point q (map paired es) (named t n ∷ enclosing) d) names ≡ flat_map (λ n. member_needs s l list_need at_point q es (named t n ∷ enclosing) d) names
      go [] = refl
      go (n ∷ names) = ap (λ us. us ++ flat_map (λ n. item_needs s l list_need at_point q (map paired es) (named t n ∷ enclosing) d) names) (member-is q es (named t n ∷ enclosing) d)
          ∙ ap (λ us. member_needs s l list_need at_point q es (named t n ∷ enclosing) d ++ us) (go names)

  span-is : (es : List Expr) (enclosing : List InstanceId) (d : ℕ) → window_needs s l list_need at_point (map paired es) enclosing d ≡ span_needs s l list_need at_point es enclosing d
  span-is [] enclosing d = refl
  span-is (x ∷ []) enclosing d = refl
  span-is (x ∷ y ∷ []) enclosing d = refl
  span-is (x ∷ y ∷ z ∷ []) enclosing d = refl
  span-is (x ∷ y ∷ z ∷ w ∷ ws) enclosing d = refl

  rows-are : (rows : List Row) (last : Expr) (enclosing : List InstanceId) (d : ℕ) → table_needs s l list_need at_point (map row_paired rows) (whole last) enclosing d ≡ rows_needs s l list_need at_point rows last enclosing d
  rows-are [] last enclosing d = refl
  rows-are (r ∷ rows) last enclosing d =
      ap (λ (u : RowUses). cond_needs (value s l r.cond enclosing d) (u.cond enclosing d) (u.value enclosing d) (table_needs s l list_need at_point (map row_paired rows) (whole last) enclosing d)) (row_needs-is r)
      ∙ ap (λ us. cond_needs (value s l r.cond enclosing d) (whole r.cond enclosing d) (whole r.value enclosing d) us) (rows-are rows last enclosing d)

  pub needs-Const : (v : Value) (enclosing : List InstanceId) (d : ℕ) → whole (V.Const v) enclosing d ≡ []
  needs-Const v = at (Const v) _ (V.rolls-Const v)

  pub needs-Attr : (a : AttrId) (enclosing : List InstanceId) (d : ℕ) → whole (V.Attr a) enclosing d ≡ at_place_uses (place l.container enclosing (owner_of s a)) (λ i. at_point a i d)
  needs-Attr a = at (Attr a) _ (V.rolls-Attr a)

  pub needs-All : (es : List Expr) (enclosing : List InstanceId) (d : ℕ) → whole (V.All es) enclosing d ≡ flat_map (λ e. own e enclosing d) es
  needs-All es enclosing d = at (All es) _ (V.rolls-All es) enclosing d ∙ each es enclosing d

  pub needs-Any : (es : List Expr) (enclosing : List InstanceId) (d : ℕ) → whole (V.Any es) enclosing d ≡ flat_map (λ e. own e enclosing d) es
  needs-Any es enclosing d = at (Any es) _ (V.rolls-Any es) enclosing d ∙ each es enclosing d

  pub needs-Not : (e : Expr) (enclosing : List InstanceId) (d : ℕ) → whole (V.Not e) enclosing d ≡ whole e enclosing d
  needs-Not e = at (Not e) _ (V.rolls-Not e)

  pub needs-Op : (k : OpKind) (es : List Expr) (enclosing : List InstanceId) (d : ℕ) → whole (V.Op k es) enclosing d ≡ flat_map (λ e. own e enclosing d) es
  needs-Op k es enclosing d = at (Op k es) _ (V.rolls-Op k es) enclosing d ∙ each es enclosing d

  pub needs-Certain : (e : Expr) (enclosing : List InstanceId) (d : ℕ) → whole (V.Certain e) enclosing d ≡ whole e enclosing d
  needs-Certain e = at (Certain e) _ (V.rolls-Certain e)

  pub needs-Known : (e : Expr) (enclosing : List InstanceId) (d : ℕ) → whole (V.Known e) enclosing d ≡ []
  needs-Known e = at (Known e) _ (V.rolls-Known e)

  pub needs-Over : (q : Quant) (r : RelId) (es : List Expr) (enclosing : List InstanceId) (d : ℕ) → whole (V.Over q r es) enclosing d
      ≡ at_place_uses (place l.container enclosing (s.source r)) (λ i. over_needs (list_need r i) (λ n. member_needs s l list_need at_point q es (named (s.target r) n ∷ enclosing) d) (l.members r i))
  needs-Over q r es enclosing d = at (Over q r es) _ (V.rolls-Over q r es) enclosing d ∙ go (place l.container enclosing (s.source r))
    where
      go : (o : Option InstanceId) → at_place_uses o (λ i. over_needs (list_need r i) (λ n. item_needs s l list_need at_point q (map paired es) (named (s.target r) n ∷ enclosing) d) (l.members r i))
          ≡ at_place_uses o (λ i. over_needs (list_need r i) (λ n. member_needs s l list_need at_point q es (named (s.target r) n ∷ enclosing) d) (l.members r i))
      go None = refl
      go (Some i) = listed (list_need r i) q es (s.target r) enclosing d (l.members r i)

  pub needs-Window : (k : WinKind) (es : List Expr) (enclosing : List InstanceId) (d : ℕ) → whole (V.Window k es) enclosing d ≡ span_needs s l list_need at_point es enclosing d
  needs-Window k es enclosing d = at (Window k es) _ (V.rolls-Window k es) enclosing d ∙ span-is es enclosing d

  pub needs-Rolling : (b : Bool) (n : ℕ) (e : Expr) (enclosing : List InstanceId) (d : ℕ) → whole (V.Rolling b n e) enclosing d ≡ last_days_uses n (own e enclosing) d
  needs-Rolling b n e = at (Rolling b n e) _ (V.rolls-Rolling b n e)

  pub needs-Table : (rows : List Row) (last : Expr) (enclosing : List InstanceId) (d : ℕ) → whole (V.Table rows last) enclosing d ≡ rows_needs s l list_need at_point rows last enclosing d
  needs-Table rows last enclosing d = at (Table rows last) _ (V.rolls-Table rows last) enclosing d ∙ rows-are rows last enclosing d

pub ruleset needs_laws = (needs-Const, needs-Attr, needs-All, needs-Any, needs-Not, needs-Op, needs-Certain, needs-Known, needs-Over, needs-Window, needs-Rolling, needs-Table)
