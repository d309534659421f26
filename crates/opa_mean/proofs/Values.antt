-- The value of each sort of tree, and of a table row by row.
use Rattle.std.proofs.Common.{◌≡◌, ℕ, zero, suc, ◌+◌, ◌-◌, ◌<◌, ◌≤◌, Bool, true, false, cond, List, [], ◌∷◌, ◌++◌, length, take, drop, get_or, Result, IfOk, max, refl, sym, ◌∙◌, ap, subst, arith, add-one}
use Rattle.std.specs.Prelude.{map}
use Rattle.std.proofs.lemmas.List.{take_more}
use Rattle.std.proofs.Math.Seq.{drop-cons}
use Rattle.opa_value.specs.declared.value.Value.TheVariants.{Uncertain}
use Rattle.opa_value.specs.Truth.{all_of, any_of, not_of, strict}
use Rattle.opa_value.specs.declared.value.Value.{Value}
use Rattle.opa_model.specs.declared.ids.AttrId.{AttrId}
use Rattle.opa_model.specs.declared.ids.RelId.{RelId}
use Rattle.opa_case.specs.Shapes.{Shape}
use Rattle.opa_cells.specs.declared.instance.InstanceId.{InstanceId}
use Rattle.opa_tree.specs.declared.kinds.OpKind.{OpKind}
use Rattle.opa_tree.specs.declared.kinds.Quant.{Quant}
use Rattle.opa_tree.specs.declared.kinds.WinKind.{WinKind}
use Rattle.opa_tree.specs.declared.kinds.WinKind.TheVariants as win
use Rattle.opa_tree.specs.declared.expr.Expr.{Expr}
use Rattle.opa_tree.specs.declared.expr.Row.{Row}
use Rattle.opa_tree.specs.declared.expr.Expr.TheOpen.{Expr-F, Const, Attr, All, Any, Not, Op, Certain, Known, Over, Window, Rolling, Table}
use Rattle.opa_tree.specs.declared.expr.Expr.TheVariants as V
use Rattle.opa_tree.specs.declared.expr.Expr.TheViews.{roll-Expr}
use Rattle.opa_tree.specs.declared.expr.Expr.TheFolds.{map-Expr}
use Rattle.opa_window.specs.Days.{days, over_days}
use Rattle.opa_window.specs.Windows.{value_at, in_window}
use Rattle.opa_mean.specs.Looks.{Look}
use Rattle.opa_mean.specs.Meaning.{Meaning, RowMeaning, tree_step, value, each, at_place, certain_of, known_of, choose, over, window, rolling, table, row_meaning}
use Rattle.opa_mean.specs.Operations.{op_of}
use Rattle.opa_mean.specs.Places.{owner_of, place}
use Rattle.opa_mean.specs.Spans.{dated, has_span, span_fold}
use Rattle.opa_mean.proofs.Levels.{row_value, value-roll, row_value-is}

pub each-map : (f : Expr → Meaning) (es : List Expr) (enclosing : List InstanceId) (d : ℕ) → each (map f es) enclosing d ≡ map (λ e. f e enclosing d) es
each-map f [] enclosing d = refl
each-map f (e ∷ es) enclosing d = ap (λ vs. f e enclosing d ∷ vs) (each-map f es enclosing d)

module _ (s : Shape) (l : Look) where
  at : (x : Expr-F Expr Row) (e : Expr) → roll-Expr x ≡ e → (enclosing : List InstanceId) (d : ℕ) → value s l e enclosing d ≡ tree_step s l (map-Expr Expr Row Meaning RowMeaning (value s l) (row_value s l) x) enclosing d
  at x e r enclosing d = ap (λ e. value s l e enclosing d) (sym r) ∙ ap (λ m. m enclosing d) (value-roll s l x)

  pub value-Const : (v : Value) (enclosing : List InstanceId) (d : ℕ) → value s l (V.Const v) enclosing d ≡ v
  value-Const v = at (Const v) _ (V.rolls-Const v)

  pub value-Attr : (a : AttrId) (enclosing : List InstanceId) (d : ℕ) → value s l (V.Attr a) enclosing d ≡ at_place (place l.container enclosing (owner_of s a)) (λ i. l.value a i d)
  value-Attr a = at (Attr a) _ (V.rolls-Attr a)

  pub value-All : (es : List Expr) (enclosing : List InstanceId) (d : ℕ) → value s l (V.All es) enclosing d ≡ all_of (map (λ e. value s l e enclosing d) es)
  value-All es enclosing d = at (All es) _ (V.rolls-All es) enclosing d ∙ ap all_of (each-map (value s l) es enclosing d)

  pub value-Any : (es : List Expr) (enclosing : List InstanceId) (d : ℕ) → value s l (V.Any es) enclosing d ≡ any_of (map (λ e. value s l e enclosing d) es)
  value-Any es enclosing d = at (Any es) _ (V.rolls-Any es) enclosing d ∙ ap any_of (each-map (value s l) es enclosing d)

  pub value-Not : (e : Expr) (enclosing : List InstanceId) (d : ℕ) → value s l (V.Not e) enclosing d ≡ not_of (value s l e enclosing d)
  value-Not e = at (Not e) _ (V.rolls-Not e)

  pub value-Op : (k : OpKind) (es : List Expr) (enclosing : List InstanceId) (d : ℕ) → value s l (V.Op k es) enclosing d ≡ strict (op_of k) (map (λ e. value s l e enclosing d) es)
  value-Op k es enclosing d = at (Op k es) _ (V.rolls-Op k es) enclosing d ∙ ap (strict (op_of k)) (each-map (value s l) es enclosing d)

  pub value-Certain : (e : Expr) (enclosing : List InstanceId) (d : ℕ) → value s l (V.Certain e) enclosing d ≡ certain_of (value s l e enclosing d)
  value-Certain e = at (Certain e) _ (V.rolls-Certain e)

  pub value-Known : (e : Expr) (enclosing : List InstanceId) (d : ℕ) → value s l (V.Known e) enclosing d ≡ known_of (value s l e enclosing d)
  value-Known e = at (Known e) _ (V.rolls-Known e)

  pub value-Over : (q : Quant) (r : RelId) (es : List Expr) (enclosing : List InstanceId) (d : ℕ) → value s l (V.Over q r es) enclosing d ≡ at_place (place l.container enclosing (s.source r)) (λ i. over q (s.target r) (l.members r i) (map (value s l) es) enclosing d)
  value-Over q r es = at (Over q r es) _ (V.rolls-Over q r es)

  pub value-Window : (k : WinKind) (es : List Expr) (enclosing : List InstanceId) (d : ℕ) → value s l (V.Window k es) enclosing d ≡ window k (map (value s l) es) enclosing d
  value-Window k es = at (Window k es) _ (V.rolls-Window k es)

  pub value-Rolling : (b : Bool) (n : ℕ) (e : Expr) (enclosing : List InstanceId) (d : ℕ) → value s l (V.Rolling b n e) enclosing d ≡ rolling b n (value s l e enclosing) d
  value-Rolling b n e = at (Rolling b n e) _ (V.rolls-Rolling b n e)

  rows-are : (rows : List Row) → map (row_value s l) rows ≡ map (row_meaning s l) rows
  rows-are [] = refl
  rows-are (r ∷ rows) = ap (λ m. m ∷ map (row_value s l) rows) (row_value-is s l r) ∙ ap (λ ms. row_meaning s l r ∷ ms) (rows-are rows)

  pub value-Table : (rows : List Row) (last : Expr) (enclosing : List InstanceId) (d : ℕ) → value s l (V.Table rows last) enclosing d ≡ table (map (row_meaning s l) rows) (value s l last) enclosing d
  value-Table rows last enclosing d = at (Table rows last) _ (V.rolls-Table rows last) enclosing d ∙ ap (λ ms. table ms (value s l last) enclosing d) (rows-are rows)

  -- one row more
  pub table_step : (rows : List Row) (last : Meaning) (enclosing : List InstanceId) (d i : ℕ) (row : Row) → i < length rows → row ≡ get_or rows i row
      → table (map (row_meaning s l) (drop i rows)) last enclosing d ≡ choose (value s l row.cond enclosing d) (value s l row.value enclosing d) (table (map (row_meaning s l) (drop (i + 1) rows)) last enclosing d)
  table_step rows last enclosing d i row lt is =
      ap (λ rs. table (map (row_meaning s l) rs) last enclosing d) (drop-cons rows i row lt ∙ ap (λ r. r ∷ drop (suc i) rows) (sym is))
      ∙ ap (λ k. choose (value s l row.cond enclosing d) (value s l row.value enclosing d) (table (map (row_meaning s l) (drop k rows)) last enclosing d)) (sym (add-one i))

pub ruleset values = (value-Const, value-Attr, value-All, value-Any, value-Not, value-Op, value-Certain, value-Known, value-Over, value-Window, value-Rolling, value-Table)

-- functions over time by the number of their operands
pub window_none : (k : WinKind) (enclosing : List InstanceId) (d : ℕ) → window k [] enclosing d ≡ Uncertain
window_none win.Before enclosing d = refl
window_none _ enclosing d = refl

pub window_one : (k : WinKind) (date : Meaning) (enclosing : List InstanceId) (d : ℕ) → window k (date ∷ []) enclosing d ≡ dated k (date enclosing d) d
window_one win.Before date enclosing d = refl
window_one win.OnOrAfter date enclosing d = refl
window_one win.YearsSince date enclosing d = refl
window_one _ date enclosing d = refl

abbrev pub is_value_at : WinKind → Bool
is_value_at win.ValueAt = true
is_value_at _ = false

pub window_two : (k : WinKind) (date x : Meaning) (enclosing : List InstanceId) (d : ℕ) → window k (date ∷ x ∷ []) enclosing d ≡ cond (is_value_at k) (value_at (x enclosing) (date enclosing d)) Uncertain
window_two win.ValueAt date x enclosing d = refl
window_two _ date x enclosing d = refl

pub window_three : (k : WinKind) (start end x : Meaning) (enclosing : List InstanceId) (d : ℕ) → window k (start ∷ end ∷ x ∷ []) enclosing d ≡ cond (has_span k) (in_window (span_fold k) (x enclosing) (start enclosing d) (end enclosing d)) Uncertain
window_three win.Always start end x enclosing d = refl
window_three win.Sometimes start end x enclosing d = refl
window_three win.DailySum start end x enclosing d = refl
window_three win.Maximum start end x enclosing d = refl
window_three win.Minimum start end x enclosing d = refl
window_three win.ConsecutiveDays start end x enclosing d = refl
window_three _ start end x enclosing d = refl

pub window_more : (k : WinKind) (a b c e : Meaning) (ms : List Meaning) (enclosing : List InstanceId) (d : ℕ) → window k (a ∷ b ∷ c ∷ e ∷ ms) enclosing d ≡ Uncertain
window_more win.Before a b c e ms enclosing d = refl
window_more _ a b c e ms enclosing d = refl

-- one day more
days_more : (s n : ℕ) → days s (suc n) ≡ days s n ++ (s + n) ∷ []
days_more s zero = ap (λ k. k ∷ []) (omega arith)
days_more s (suc n) = ap (λ ks. s ∷ ks) (days_more (s + 1) n ∙ ap (λ k. days (s + 1) n ++ k ∷ []) shifted)
  where
    shifted : (s + 1) + n ≡ s + suc n
    shifted = omega arith

map_more : (f : ℕ → Value) (ds : List ℕ) (d : ℕ) → map f (ds ++ d ∷ []) ≡ map f ds ++ f d ∷ []
map_more f [] d = refl
map_more f (k ∷ ds) d = ap (λ vs. f k ∷ vs) (map_more f ds d)

pub over_more : (f : ℕ → Value) (s d : ℕ) → s ≤ d → over_days f s (d + 1) ≡ over_days f s d ++ f d ∷ []
over_more f s d le =
    let one : d + 1 - s ≡ suc (d - s) = omega (arith, le) in
    let last : s + (d - s) ≡ d = omega (arith, le) in
    ap (λ n. map f (days s n)) one ∙ ap (map f) (days_more s (d - s)) ∙ map_more f (days s (d - s)) (s + (d - s))
    ∙ ap (λ k. over_days f s d ++ f k ∷ []) last

pub over_whole : (f : ℕ → Value) (s t d : ℕ) → d ≡ max s t → over_days f s d ≡ over_days f s t
over_whole f s t d e = let same : d - s ≡ t - s = omega (arith, e) in ap (λ n. map f (days s n)) same

pub over_start : (f : ℕ → Value) (s : ℕ) → over_days f s s ≡ []
over_start f s = let none : s - s ≡ zero = omega arith in ap (λ n. map f (days s n)) none

-- one listed instance more
pub items_more : (g : List ℕ → Value) (names : List (List ℕ)) (i : ℕ) (name : List ℕ) (items new : List Value) (v : Value) → i < length names → name ≡ get_or names i name → items ≡ map g (take i names) → new ≡ items ++ v ∷ [] → v ≡ g name → new ≡ map g (take (i + 1) names)
items_more g names i name items new v lt is before next here =
    next ∙ ap (λ vs. vs ++ v ∷ []) before ∙ ap (λ w. map g (take i names) ++ w ∷ []) (here ∙ ap g is)
    ∙ sym (pushed (take i names) (get_or names i name)) ∙ sym (ap (map g) (take_more names i name lt))
  where
    pushed : (xs : List (List ℕ)) (x : List ℕ) → map g (xs ++ x ∷ []) ≡ map g xs ++ g x ∷ []
    pushed [] x = refl
    pushed (y ∷ xs) x = ap (λ vs. g y ∷ vs) (pushed xs x)

pub ok_same : {E : Type 0} (r : Result Value E) (v w : Value) → v ≡ w → IfOk r (λ x. x ≡ v) → IfOk r (λ x. x ≡ w)
ok_same r v w e h = subst (λ y. IfOk r (λ x. x ≡ y)) e h

-- three operands
pub three_are : (ts : List Expr) (a b x : Expr) → 3 ≤ length ts → length ts < 4 → a ≡ get_or ts 0 a → b ≡ get_or ts 1 b → x ≡ get_or ts 2 x → ts ≡ a ∷ b ∷ x ∷ []
three_are [] a b x low high = absurd (omega (arith, low))
three_are (t ∷ []) a b x low high = absurd (omega (arith, low))
three_are (t ∷ u ∷ []) a b x low high = absurd (omega (arith, low))
three_are (t ∷ u ∷ v ∷ []) a b x low high = λ ea eb ex. ap (λ y. y ∷ u ∷ v ∷ []) (sym ea) ∙ ap (λ y. a ∷ y ∷ v ∷ []) (sym eb) ∙ ap (λ y. a ∷ b ∷ y ∷ []) (sym ex)
three_are (t ∷ u ∷ v ∷ w ∷ ts) a b x low high = absurd (omega (arith, high))

pub spanned : (s : Shape) (l : Look) (k : WinKind) (ts : List Expr) (a b x : Expr) (start end : Value) (enclosing : List InstanceId) (d : ℕ) → ts ≡ a ∷ b ∷ x ∷ [] → has_span k ≡ true → start ≡ value s l a enclosing d → end ≡ value s l b enclosing d
    → in_window (span_fold k) (value s l x enclosing) start end ≡ window k (map (value s l) ts) enclosing d
spanned s l k ts a b x start end enclosing d are span is_start is_end =
    ap (λ v. in_window (span_fold k) (value s l x enclosing) v end) is_start ∙ ap (λ v. in_window (span_fold k) (value s l x enclosing) (value s l a enclosing d) v) is_end
    ∙ sym (window_three k (value s l a) (value s l b) (value s l x) enclosing d ∙ ap (λ t. cond t (in_window (span_fold k) (value s l x enclosing) (value s l a enclosing d) (value s l b enclosing d)) Uncertain) span)
    ∙ sym (ap (λ es. window k (map (value s l) es) enclosing d) are)
