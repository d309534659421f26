-- The shades of each sort of tree.
use Rattle.std.proofs.Common.{◌≡◌, ℕ, suc, ◌+◌, ◌<◌, ◌≤◌, List, [], ◌∷◌, ◌++◌, Bool, false, Option, None, Some, Result, Ok, Err, IfOk, take, drop, get_or, length, refl, sym, ◌∙◌, ap, arith, add-one}
use Rattle.std.specs.Prelude.{map}
use Rattle.std.proofs.lemmas.List.{map-append, take_more}
use Rattle.std.proofs.Math.Seq.{drop-cons}
use Rattle.opa_io.proofs.Places.{drop_whole}
use Rattle.opa_date.specs.declared.TheConstants.{DAYS}
use Rattle.opa_value.specs.declared.value.Value.{Value}
use Rattle.opa_value.specs.declared.value.Value.TheVariants.{Bool as Truth}
use Rattle.opa_value.specs.Truth.{is_true, not_of, strict}
use Rattle.opa_window.specs.Windows.{rolling_sometimes}
use Rattle.opa_model.specs.declared.ids.AttrId.{AttrId}
use Rattle.opa_model.specs.declared.ids.RelId.{RelId}
use Rattle.opa_line.specs.Lines.{value_or, StandsFor}
use Rattle.opa_case.specs.Live.{Names}
use Rattle.opa_case.specs.Shapes.{Shape}
use Rattle.opa_cells.specs.declared.instance.InstanceId.{InstanceId}
use Rattle.opa_cells.specs.Instances.{named}
use Rattle.opa_tree.specs.declared.kinds.OpKind.{OpKind}
use Rattle.opa_tree.specs.declared.kinds.Quant.{Quant}
use Rattle.opa_tree.specs.declared.kinds.WinKind.{WinKind}
use Rattle.opa_tree.specs.declared.expr.Expr.{Expr}
use Rattle.opa_tree.specs.declared.expr.Row.{Row}
use Rattle.opa_tree.specs.declared.expr.Expr.TheOpen.{Expr-F, Const, Attr, All, Any, Not, Op, Certain, Known, Over, Window, Rolling, Table}
use Rattle.opa_tree.specs.declared.expr.Expr.TheVariants as V
use Rattle.opa_tree.specs.declared.expr.Expr.TheViews.{roll-Expr}
use Rattle.opa_tree.specs.declared.expr.Expr.TheFolds.{map-Expr}
use Rattle.opa_mean.specs.Meaning.{certain_of, known_of, rolling}
use Rattle.opa_mean.specs.Operations.{op_of}
use Rattle.opa_verify.specs.declared.listed.shade.Shade.{Shade}
use Rattle.opa_verify.specs.Listed.Listings.{Listing}
use Rattle.opa_verify.specs.Listed.Shades.{Shading, RowShading, values_on, gaps_on, there, gone, mapped, joined, all_shade, any_shade, choice_shade, at_place_shade, item_shade, quant_shade, over_shade, each_shade, window_shade, rolling_shade, table_shade, shade_step, shade}
use Rattle.opa_verify.specs.Listed.ShadeLines.{ShadeLine, shade_at, shades_at}
use Rattle.opa_verify.specs.Listed.Walks.{attr_shade, at_place_listed, names_or, of_listed, tree_shades, item_shades_at, row_shading, over_seen_at}
use Rattle.opa_verify.specs.Listed.Ways.{place_seen}
use Rattle.opa_verify.proofs.listed.Shading.{row_shade, shade-roll, row_shade-is}
use Rattle.opa_verify.proofs.listed.WindowLaws.{rolling_alike}

-- a line of equal shades
pub restands : {E : Type 0} (r : Result ShadeLine E) (f g : ℕ → Shade) → ((d : ℕ) → d < DAYS → f d ≡ g d) → IfOk r (StandsFor DAYS f) → IfOk r (StandsFor DAYS g)
restands (Ok l) f g same h = λ d lt. h d lt ∙ ap Some (same d lt)
restands (Err e) f g same h = tt

pub told : (l : ShadeLine) (f : ℕ → Shade) → StandsFor DAYS f l → (d : ℕ) → d < DAYS → shade_at l d ≡ f d
told l f h d lt = ap (value_or gone) (h d lt)

module _ (s : Shape) (k : Listing) where
  level : (x : Expr-F Expr Row) (e : Expr) → roll-Expr x ≡ e → (enclosing : List InstanceId) (d : ℕ) → shade s k e enclosing d ≡ shade_step s k (map-Expr Expr Row Shading RowShading (shade s k) (row_shade s k) x) enclosing d
  level x e r enclosing d = ap (λ e. shade s k e enclosing d) (sym r) ∙ ap (λ m. m enclosing d) (shade-roll s k x)

  pub each : (es : List Expr) (enclosing : List InstanceId) (d : ℕ) → each_shade (map (shade s k) es) enclosing d ≡ tree_shades s k es enclosing d
  each [] enclosing d = refl
  each (e ∷ es) enclosing d = ap (λ hs. shade s k e enclosing d ∷ hs) (each es enclosing d)

  pub shade-Const : (v : Value) (enclosing : List InstanceId) (d : ℕ) → shade s k (V.Const v) enclosing d ≡ there v
  shade-Const v = level (Const v) _ (V.rolls-Const v)

  pub shade-Attr : (a : AttrId) (enclosing : List InstanceId) (d : ℕ) → shade s k (V.Attr a) enclosing d ≡ attr_shade s k a enclosing d
  shade-Attr a = level (Attr a) _ (V.rolls-Attr a)

  pub shade-All : (es : List Expr) (enclosing : List InstanceId) (d : ℕ) → shade s k (V.All es) enclosing d ≡ all_shade (tree_shades s k es enclosing d)
  shade-All es enclosing d = level (All es) _ (V.rolls-All es) enclosing d ∙ ap all_shade (each es enclosing d)

  pub shade-Any : (es : List Expr) (enclosing : List InstanceId) (d : ℕ) → shade s k (V.Any es) enclosing d ≡ any_shade (tree_shades s k es enclosing d)
  shade-Any es enclosing d = level (Any es) _ (V.rolls-Any es) enclosing d ∙ ap any_shade (each es enclosing d)

  pub shade-Not : (e : Expr) (enclosing : List InstanceId) (d : ℕ) → shade s k (V.Not e) enclosing d ≡ mapped not_of (shade s k e enclosing d)
  shade-Not e = level (Not e) _ (V.rolls-Not e)

  pub shade-Op : (o : OpKind) (es : List Expr) (enclosing : List InstanceId) (d : ℕ) → shade s k (V.Op o es) enclosing d ≡ joined (strict (op_of o)) (tree_shades s k es enclosing d)
  shade-Op o es enclosing d = level (Op o es) _ (V.rolls-Op o es) enclosing d ∙ ap (joined (strict (op_of o))) (each es enclosing d)

  pub shade-Certain : (e : Expr) (enclosing : List InstanceId) (d : ℕ) → shade s k (V.Certain e) enclosing d ≡ mapped certain_of (shade s k e enclosing d)
  shade-Certain e = level (Certain e) _ (V.rolls-Certain e)

  pub shade-Known : (e : Expr) (enclosing : List InstanceId) (d : ℕ) → shade s k (V.Known e) enclosing d ≡ mapped known_of (shade s k e enclosing d)
  shade-Known e = level (Known e) _ (V.rolls-Known e)

  pub shade-Over : (q : Quant) (r : RelId) (es : List Expr) (enclosing : List InstanceId) (d : ℕ) → shade s k (V.Over q r es) enclosing d ≡ over_seen_at s k q r es enclosing d
  shade-Over q r es enclosing d = level (Over q r es) _ (V.rolls-Over q r es) enclosing d ∙ go (place_seen k.container enclosing (s.source r))
    where
      over : (o : Option (Option Names)) → over_shade q (s.target r) o (map (shade s k) es) enclosing d ≡ of_listed (names_or o) (λ names. quant_shade q (item_shades_at s k q (s.target r) names es enclosing d))
      over None = refl
      over (Some None) = refl
      over (Some (Some names)) = ap (λ (f : List ℕ → List Shade). quant_shade q (map (λ n. item_shade q (f n)) names)) (λ i n. each es (named (s.target r) n ∷ enclosing) d i)

      go : (o : Option (Option InstanceId)) → at_place_shade o (λ i. over_shade q (s.target r) (k.members r i) (map (shade s k) es) enclosing d) ≡ of_listed (at_place_listed o (k.members r)) (λ names. quant_shade q (item_shades_at s k q (s.target r) names es enclosing d))
      go None = refl
      go (Some None) = refl
      go (Some (Some i)) = over (k.members r i)

  pub shade-Window : (w : WinKind) (es : List Expr) (enclosing : List InstanceId) (d : ℕ) → shade s k (V.Window w es) enclosing d ≡ window_shade w (map (shade s k) es) enclosing d
  shade-Window w es = level (Window w es) _ (V.rolls-Window w es)

  pub shade-Rolling : (b : Bool) (n : ℕ) (e : Expr) (enclosing : List InstanceId) (d : ℕ) → shade s k (V.Rolling b n e) enclosing d ≡ rolling_shade b n (shade s k e enclosing) d
  shade-Rolling b n e = level (Rolling b n e) _ (V.rolls-Rolling b n e)

  rows-are : (rows : List Row) → map (row_shade s k) rows ≡ map (row_shading s k) rows
  rows-are [] = refl
  rows-are (r ∷ rows) = ap (λ m. m ∷ map (row_shade s k) rows) (row_shade-is s k r) ∙ ap (λ ms. row_shading s k r ∷ ms) (rows-are rows)

  pub shade-Table : (rows : List Row) (last : Expr) (enclosing : List InstanceId) (d : ℕ) → shade s k (V.Table rows last) enclosing d ≡ table_shade (map (row_shading s k) rows) (shade s k last) enclosing d
  shade-Table rows last enclosing d = level (Table rows last) _ (V.rolls-Table rows last) enclosing d ∙ ap (λ ms. table_shade ms (shade s k last) enclosing d) (rows-are rows)

  -- one row more, from the last on
  pub row_more : (rows : List Row) (last : Expr) (enclosing : List InstanceId) (d i : ℕ) (row : Row) → i < length rows → row ≡ get_or rows i row
      → table_shade (map (row_shading s k) (drop i rows)) (shade s k last) enclosing d ≡ choice_shade (shade s k row.cond enclosing d) (shade s k row.value enclosing d) (table_shade (map (row_shading s k) (drop (i + 1) rows)) (shade s k last) enclosing d)
  row_more rows last enclosing d i row lt is =
      ap (λ rs. table_shade (map (row_shading s k) rs) (shade s k last) enclosing d) (drop-cons rows i row lt ∙ ap (λ r. r ∷ drop (suc i) rows) (sym is))
      ∙ ap (λ j. choice_shade (shade s k row.cond enclosing d) (shade s k row.value enclosing d) (table_shade (map (row_shading s k) (drop j rows)) (shade s k last) enclosing d)) (sym (add-one i))

-- one line more
abbrev pub AreShades : List ShadeLine → (ℕ → List Shade) → Type 0
AreShades ls f = (d : ℕ) → d < DAYS → shades_at ls d ≡ f d

pub lines_more : {X : Type 0} (g : X → ℕ → Shade) (xs : List X) (i : ℕ) (x : X) (old new : List ShadeLine) (l : ShadeLine) → i < length xs → x ≡ get_or xs i x → AreShades old (λ d. map (λ y. g y d) (take i xs)) → new ≡ old ++ l ∷ [] → StandsFor DAYS (g x) l
    → AreShades new (λ d. map (λ y. g y d) (take (i + 1) xs))
lines_more g xs i x old new l lt is before next stands d in_days =
    ap (λ ls. shades_at ls d) next ∙ map-append (λ m. shade_at m d) old (l ∷ []) ∙ ap (λ hs. hs ++ shade_at l d ∷ []) (before d in_days)
    ∙ ap (λ h. map (λ y. g y d) (take i xs) ++ h ∷ []) (told l (g x) stands d in_days)
    ∙ sym (map-append (λ y. g y d) (take i xs) (x ∷ [])) ∙ ap (λ y. map (λ y. g y d) (take i xs ++ y ∷ [])) is ∙ ap (λ ys. map (λ y. g y d) ys) (sym (take_more xs i x lt))

-- lines of trees that are told apart by a slice
pub lines_told : (s : Shape) (k : Listing) (enclosing : List InstanceId) (raw ls : List ShadeLine) (es es' : List Expr) → raw ≡ ls → AreShades ls (tree_shades s k es' enclosing) → es' ≡ es → (d : ℕ) → d < DAYS → shades_at raw d ≡ tree_shades s k es enclosing d
lines_told s k enclosing raw ls es es' a h b d lt = ap (λ ls. shades_at ls d) a ∙ h d lt ∙ ap (λ es. tree_shades s k es enclosing d) b

-- over the last days
pub rolled_alike : (b : Bool) (n : ℕ) (f g : ℕ → Shade) → ((d : ℕ) → d < DAYS → f d ≡ g d) → (d : ℕ) → d < DAYS → rolling_shade b n f d ≡ rolling_shade b n g d
rolled_alike b n f g h d lt =
    ap (λ v. let x : Shade = record { value = v; missing = is_true (rolling_sometimes n (gaps_on f) d) } in x) (rolling_alike b n (values_on f) (values_on g) (λ e le. ap (λ (x : Shade). x.value) (h e le)) d lt)
    ∙ ap (λ v. let x : Shade = record { value = rolling b n (values_on g) d; missing = is_true v } in x) (rolling_alike false n (gaps_on f) (gaps_on g) (λ e le. ap (λ (x : Shade). Truth x.missing) (h e le)) d lt)

-- a row before others, and none
pub row_stands : (s : Shape) (k : Listing) (rows rest : List Row) (row : Row) (last : Shading) (enclosing : List InstanceId) (cond value behind l : ShadeLine) → rows ≡ row ∷ rest
    → StandsFor DAYS (shade s k row.cond enclosing) cond → StandsFor DAYS (shade s k row.value enclosing) value → StandsFor DAYS (table_shade (map (row_shading s k) rest) last enclosing) behind
    → StandsFor DAYS (λ d. choice_shade (shade_at cond d) (shade_at value d) (shade_at behind d)) l → StandsFor DAYS (table_shade (map (row_shading s k) rows) last enclosing) l
row_stands s k rows rest row last enclosing c v b l is hc hv hb h d lt =
    h d lt ∙ ap Some (ap (λ x. choice_shade x (shade_at v d) (shade_at b d)) (told c _ hc d lt) ∙ ap (λ x. choice_shade (shade s k row.cond enclosing d) x (shade_at b d)) (told v _ hv d lt)
    ∙ ap (choice_shade (shade s k row.cond enclosing d) (shade s k row.value enclosing d)) (told b _ hb d lt) ∙ sym (ap (λ rs. table_shade (map (row_shading s k) rs) last enclosing d) is))

pub none_stands : (s : Shape) (k : Listing) (rows : List Row) (last : Shading) (enclosing : List InstanceId) (behind l : ShadeLine) → rows ≡ [] → StandsFor DAYS (last enclosing) behind → StandsFor DAYS (shade_at behind) l → StandsFor DAYS (table_shade (map (row_shading s k) rows) last enclosing) l
none_stands s k rows last enclosing b l is hb h d lt = h d lt ∙ ap Some (told b _ hb d lt ∙ sym (ap (λ rs. table_shade (map (row_shading s k) rs) last enclosing d) is))

pub rows_start : (s : Shape) (k : Listing) (rows : List Row) (n : ℕ) (enclosing : List InstanceId) (behind l : ShadeLine) → n ≡ length rows → StandsFor DAYS (shade_at behind) l
    → (n ≤ length rows) × ((last : Shading) → StandsFor DAYS (last enclosing) behind → StandsFor DAYS (table_shade (map (row_shading s k) (drop n rows)) last enclosing) l)
rows_start s k rows n enclosing b l e h = (omega (arith, e), λ last hb. none_stands s k (drop n rows) last enclosing b l (ap (λ m. drop m rows) e ∙ drop_whole rows) hb h)

pub rows_next : (s : Shape) (k : Listing) (rows : List Row) (n m : ℕ) (row : Row) (enclosing : List InstanceId) (behind cond value old new : ShadeLine) → m + 1 ≡ n → row ≡ get_or rows m row
    → (n ≤ length rows) × ((last : Shading) → StandsFor DAYS (last enclosing) behind → StandsFor DAYS (table_shade (map (row_shading s k) (drop n rows)) last enclosing) old)
    → StandsFor DAYS (shade s k row.cond enclosing) cond → StandsFor DAYS (shade s k row.value enclosing) value → StandsFor DAYS (λ d. choice_shade (shade_at cond d) (shade_at value d) (shade_at old d)) new
    → (m ≤ length rows) × ((last : Shading) → StandsFor DAYS (last enclosing) behind → StandsFor DAYS (table_shade (map (row_shading s k) (drop m rows)) last enclosing) new)
rows_next s k rows n m row enclosing b c v old new e is h hc hv hn =
    let lt : m < length rows = omega (arith, e, h.0) in (
      omega (arith, lt),
      λ last hb. row_stands s k (drop m rows) (drop n rows) row last enclosing c v old new (drop-cons rows m row lt ∙ ap (λ r. r ∷ drop (suc m) rows) (sym is) ∙ ap (λ j. row ∷ drop j rows) (sym (add-one m) ∙ e)) hc hv (h.1 last hb) hn,
    )
