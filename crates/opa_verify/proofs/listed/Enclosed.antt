-- What is seen of a tree depends on the enclosing instances only by the places of the entities that it mentions.
use Rattle.std.proofs.Common.{◌≡◌, ◌⊎◌, inl, inr, ℕ, zero, suc, Bool, true, cond, List, [], ◌∷◌, map, Some, refl, sym, ◌∙◌, ap}
use Rattle.std.specs.Prelude.{Contains}
use Rattle.std.specs.List.{AllByRecursion}
use Rattle.std.proofs.lemmas.Bool.{eq-eqb}
use Rattle.std.proofs.Math.Path.{fun_ext}
use Rattle.opa_value.specs.declared.value.Value.{Value}
use Rattle.opa_value.specs.Truth.{all_of, any_of, not_of, strict}
use Rattle.opa_model.specs.declared.ids.AttrId.{AttrId}
use Rattle.opa_model.specs.declared.ids.RelId.{RelId}
use Rattle.opa_tree.specs.declared.kinds.OpKind.{OpKind}
use Rattle.opa_tree.specs.declared.kinds.Quant.{Quant}
use Rattle.opa_tree.specs.declared.kinds.WinKind.{WinKind}
use Rattle.opa_tree.specs.declared.kinds.WinKind.TheVariants as win
use Rattle.opa_tree.specs.declared.expr.Expr.{Expr}
use Rattle.opa_tree.specs.declared.expr.Row.{Row}
use Rattle.opa_tree.specs.declared.expr.Expr.TheVariants as V
use Rattle.opa_case.specs.Shapes.{Shape}
use Rattle.opa_cells.specs.Instances.{named}
use Rattle.opa_cells.specs.declared.instance.InstanceId.{InstanceId}
use Rattle.opa_window.specs.Folds.{sum_value, greatest, least, run_value}
use Rattle.opa_window.specs.Windows.{before, on_or_after, years_since}
use Rattle.opa_mean.specs.Meaning.{certain_of, known_of}
use Rattle.opa_mean.specs.Operations.{op_of}
use Rattle.opa_mean.specs.Places.{owner_of, is_of}
use Rattle.opa_verify.specs.declared.listed.shade.Shade.{Shade}
use Rattle.opa_verify.specs.Listed.Keeping.{HasOnePlace, Follows, IsAlike, IsRowAlike}
use Rattle.opa_verify.specs.Listed.Listings.{Listing}
use Rattle.opa_verify.specs.Listed.Shades.{Shading, shade_of, mapped, joined, all_shade, any_shade, choice_shade, at_place_shade, item_shade, quant_shade, span_shade, date_shade, window_shade, rolling_shade, table_shade, shade}
use Rattle.opa_verify.specs.Listed.Walks.{at_place_listed, listed_at, of_listed, tree_shades, item_shades_at, row_shading}
use Rattle.opa_verify.specs.Listed.Ways.{Met, Passed, onward, met_or, walk_up, place_seen}
use Rattle.opa_verify.proofs.listed.Walking.{shade-Const, shade-Attr, shade-All, shade-Any, shade-Not, shade-Op, shade-Certain, shade-Known, shade-Over, shade-Window, shade-Rolling, shade-Table}
use Rattle.opa_verify.proofs.listed.WindowKinds.{more_is}

-- functions over time
module _ (e f : List InstanceId) where
  -- each shading is the same at both lists
  abbrev pub Same : List Shading → Type 0
  Same ms = AllByRecursion (λ m. m e ≡ m f) ms

  same_one : (w : WinKind) (a : Shading) (d : ℕ) → a e ≡ a f → window_shade w (a ∷ []) e d ≡ window_shade w (a ∷ []) f d
  same_one win.Before a d h = ap (λ (g : ℕ → Shade). mapped (λ v. before v d) (g d)) h
  same_one win.OnOrAfter a d h = ap (λ (g : ℕ → Shade). mapped (λ v. on_or_after v d) (g d)) h
  same_one win.YearsSince a d h = ap (λ (g : ℕ → Shade). mapped (λ v. years_since v d) (g d)) h
  same_one _ a d h = refl

  same_two : (w : WinKind) (a x : Shading) (d : ℕ) → a e ≡ a f → x e ≡ x f → window_shade w (a ∷ x ∷ []) e d ≡ window_shade w (a ∷ x ∷ []) f d
  same_two win.ValueAt a x d h i = ap (λ (g : ℕ → Shade). date_shade (x e) (g d)) h ∙ ap (λ (g : ℕ → Shade). date_shade g (a f d)) i
  same_two _ a x d h i = refl

  same_span : (fold : List Value → Value) (a b x : Shading) (d : ℕ) → a e ≡ a f → b e ≡ b f → x e ≡ x f → span_shade fold (x e) (a e d) (b e d) ≡ span_shade fold (x f) (a f d) (b f d)
  same_span fold a b x d h i j =
      ap (λ (g : ℕ → Shade). span_shade fold (x e) (g d) (b e d)) h ∙ ap (λ (g : ℕ → Shade). span_shade fold (x e) (a f d) (g d)) i ∙ ap (λ (g : ℕ → Shade). span_shade fold g (a f d) (b f d)) j

  same_three : (w : WinKind) (a b x : Shading) (d : ℕ) → a e ≡ a f → b e ≡ b f → x e ≡ x f → window_shade w (a ∷ b ∷ x ∷ []) e d ≡ window_shade w (a ∷ b ∷ x ∷ []) f d
  same_three win.Always a b x d h i j = same_span all_of a b x d h i j
  same_three win.Sometimes a b x d h i j = same_span any_of a b x d h i j
  same_three win.DailySum a b x d h i j = same_span (strict sum_value) a b x d h i j
  same_three win.Maximum a b x d h i j = same_span (strict greatest) a b x d h i j
  same_three win.Minimum a b x d h i j = same_span (strict least) a b x d h i j
  same_three win.ConsecutiveDays a b x d h i j = same_span (strict run_value) a b x d h i j
  same_three _ a b x d h i j = refl

  same_window : (w : WinKind) (ms : List Shading) (d : ℕ) → Same ms → window_shade w ms e d ≡ window_shade w ms f d
  same_window win.Before [] d h = refl
  same_window _ [] d h = refl
  same_window w (a ∷ []) d h = same_one w a d h.0
  same_window w (a ∷ x ∷ []) d h = same_two w a x d h.0 h.1.0
  same_window w (a ∷ b ∷ x ∷ []) d h = same_three w a b x d h.0 h.1.0 h.1.1.0
  same_window w (a ∷ b ∷ c ∷ x ∷ ms) d h = sym (more_is w a b c x ms e d) ∙ more_is w a b c x ms f d

module _ (s : Shape) (k : Listing) where
  place_behind : (i : InstanceId) (e f : List InstanceId) (o : ℕ) → place_seen k.container e o ≡ place_seen k.container f o → place_seen k.container (i ∷ e) o ≡ place_seen k.container (i ∷ f) o
  place_behind i e f o h = ap (met_or (walk_up k.container o i.entity.0 i)) h

  walk_first : (n : ℕ) (i : InstanceId) (o : ℕ) → is_of o i ≡ true → walk_up k.container o n i ≡ Met i
  walk_first zero i o is = ap (λ b. cond b (Met i) Passed) is
  walk_first (suc n) i o is = ap (λ b. cond b (Met i) (onward i (k.container i) (walk_up k.container o n))) is

  place_first : (i : InstanceId) (e : List InstanceId) (o : ℕ) → is_of o i ≡ true → place_seen k.container (i ∷ e) o ≡ Some (Some i)
  place_first i e o is = ap (λ w. met_or w (place_seen k.container e o)) (walk_first i.entity.0 i o is)

  -- the listed instance is the place of its entity, and behind it others stay the same
  pub follows_within : (hidden inner : List ℕ) (e f x y : List InstanceId) (target : ℕ) (name : List ℕ) → ((o : ℕ) → Contains inner o → Contains hidden o ⊎ (target ≡ o)) → Follows k hidden e f x y → Follows k inner e f (named target name ∷ x) (named target name ∷ y)
  follows_within hidden inner e f x y target name cases follows o h = at h
    where
      listed : target ≡ o → place_seen k.container (named target name ∷ x) o ≡ place_seen k.container (named target name ∷ y) o
      listed is = let here = eq-eqb target o is in place_first (named target name) x o here ∙ sym (place_first (named target name) y o here)

      within : Contains hidden o ⊎ (target ≡ o) → place_seen k.container (named target name ∷ x) o ≡ place_seen k.container (named target name ∷ y) o
      within (inl has) = place_behind (named target name) x y o (follows o (inl has))
      within (inr is) = listed is

      at : HasOnePlace k inner e f o → place_seen k.container (named target name ∷ x) o ≡ place_seen k.container (named target name ∷ y) o
      at (inl has) = within (cases o has)
      at (inr is) = place_behind (named target name) x y o (follows o (inr is))

  module _ (x y : List InstanceId) where
    pub alike_const : (v : Value) → IsAlike s k x y (V.Const v)
    alike_const v = fun_ext (λ d. shade-Const s k v x d ∙ sym (shade-Const s k v y d))

    pub alike_attr : (a : AttrId) → place_seen k.container x (owner_of s a) ≡ place_seen k.container y (owner_of s a) → IsAlike s k x y (V.Attr a)
    alike_attr a h = fun_ext (λ d. shade-Attr s k a x d ∙ ap (λ p. at_place_shade p (λ i. shade_of (k.value a i d))) h ∙ sym (shade-Attr s k a y d))

    shades_same : (ts : List Expr) (d : ℕ) → AllByRecursion (IsAlike s k x y) ts → tree_shades s k ts x d ≡ tree_shades s k ts y d
    shades_same [] d h = refl
    shades_same (t ∷ ts) d h = ap (λ (g : ℕ → Shade). g d ∷ tree_shades s k ts x d) h.0 ∙ ap (λ hs. shade s k t y d ∷ hs) (shades_same ts d h.1)

    shadings_same : (ts : List Expr) → AllByRecursion (IsAlike s k x y) ts → Same x y (map (shade s k) ts)
    shadings_same [] h = tt
    shadings_same (t ∷ ts) h = (h.0, shadings_same ts h.1)

    pub alike_all : (ts : List Expr) → AllByRecursion (IsAlike s k x y) ts → IsAlike s k x y (V.All ts)
    alike_all ts h = fun_ext (λ d. shade-All s k ts x d ∙ ap all_shade (shades_same ts d h) ∙ sym (shade-All s k ts y d))

    pub alike_any : (ts : List Expr) → AllByRecursion (IsAlike s k x y) ts → IsAlike s k x y (V.Any ts)
    alike_any ts h = fun_ext (λ d. shade-Any s k ts x d ∙ ap any_shade (shades_same ts d h) ∙ sym (shade-Any s k ts y d))

    pub alike_op : (o : OpKind) (ts : List Expr) → AllByRecursion (IsAlike s k x y) ts → IsAlike s k x y (V.Op o ts)
    alike_op o ts h = fun_ext (λ d. shade-Op s k o ts x d ∙ ap (joined (strict (op_of o))) (shades_same ts d h) ∙ sym (shade-Op s k o ts y d))

    pub alike_not : (t : Expr) → IsAlike s k x y t → IsAlike s k x y (V.Not t)
    alike_not t h = fun_ext (λ d. shade-Not s k t x d ∙ ap (λ (g : ℕ → Shade). mapped not_of (g d)) h ∙ sym (shade-Not s k t y d))

    pub alike_certain : (t : Expr) → IsAlike s k x y t → IsAlike s k x y (V.Certain t)
    alike_certain t h = fun_ext (λ d. shade-Certain s k t x d ∙ ap (λ (g : ℕ → Shade). mapped certain_of (g d)) h ∙ sym (shade-Certain s k t y d))

    pub alike_known : (t : Expr) → IsAlike s k x y t → IsAlike s k x y (V.Known t)
    alike_known t h = fun_ext (λ d. shade-Known s k t x d ∙ ap (λ (g : ℕ → Shade). mapped known_of (g d)) h ∙ sym (shade-Known s k t y d))

    pub alike_rolling : (b : Bool) (n : ℕ) (t : Expr) → IsAlike s k x y t → IsAlike s k x y (V.Rolling b n t)
    alike_rolling b n t h = fun_ext (λ d. shade-Rolling s k b n t x d ∙ ap (λ (g : ℕ → Shade). rolling_shade b n g d) h ∙ sym (shade-Rolling s k b n t y d))

    pub alike_window : (w : WinKind) (ts : List Expr) → AllByRecursion (IsAlike s k x y) ts → IsAlike s k x y (V.Window w ts)
    alike_window w ts h = fun_ext (λ d. shade-Window s k w ts x d ∙ same_window x y w (map (shade s k) ts) d (shadings_same ts h) ∙ sym (shade-Window s k w ts y d))

    table_same : (rs : List Row) (t : Expr) (d : ℕ) → AllByRecursion (IsRowAlike s k x y) rs → IsAlike s k x y t → table_shade (map (row_shading s k) rs) (shade s k t) x d ≡ table_shade (map (row_shading s k) rs) (shade s k t) y d
    table_same [] t d h last = ap (λ (g : ℕ → Shade). g d) last
    table_same (r ∷ rs) t d h last =
        ap (λ (g : ℕ → Shade). choice_shade (g d) (shade s k r.value x d) (table_shade (map (row_shading s k) rs) (shade s k t) x d)) h.0.cond
        ∙ ap (λ (g : ℕ → Shade). choice_shade (shade s k r.cond y d) (g d) (table_shade (map (row_shading s k) rs) (shade s k t) x d)) h.0.value
        ∙ ap (λ v. choice_shade (shade s k r.cond y d) (shade s k r.value y d) v) (table_same rs t d h.1 last)

    pub alike_table : (rs : List Row) (t : Expr) → AllByRecursion (IsRowAlike s k x y) rs → IsAlike s k x y t → IsAlike s k x y (V.Table rs t)
    alike_table rs t h last = fun_ext (λ d. shade-Table s k rs t x d ∙ table_same rs t d h last ∙ sym (shade-Table s k rs t y d))

  pub alike_over : (q : Quant) (r : RelId) (ts : List Expr) (x y : List InstanceId) → place_seen k.container x (s.source r) ≡ place_seen k.container y (s.source r) → ((name : List ℕ) → AllByRecursion (IsAlike s k (named (s.target r) name ∷ x) (named (s.target r) name ∷ y)) ts)
      → IsAlike s k x y (V.Over q r ts)
  alike_over q r ts x y same h = fun_ext (λ d. shade-Over s k q r ts x d
      ∙ ap (λ p. of_listed (at_place_listed p (k.members r)) (λ names. quant_shade q (item_shades_at s k q (s.target r) names ts x d))) same
      ∙ ap (λ (g : List ℕ → Shade). of_listed (listed_at s k r y) (λ names. quant_shade q (map g names))) (fun_ext (λ n. ap (item_shade q) (shades_same (named (s.target r) n ∷ x) (named (s.target r) n ∷ y) ts d (h n))))
      ∙ sym (shade-Over s k q r ts y d))
