-- What is seen as two things that can be told of a whole line at once: a value, and whether it is missing.
use Rattle.std.specs.Prelude.{◌≡◌, ℕ, pos, Bool, true, false, not, ◌&&◌, ◌||◌, nat_le, if◌then◌else◌, List, [], ◌∷◌, map, length, Option, None, Some}
use Rattle.std.specs.List.{list_any}
use Rattle.opa_value.specs.declared.value.Value.{Value}
use Rattle.opa_value.specs.declared.value.Value.TheVariants.{Unknown, Uncertain, Bool as Truth, Num}
use Rattle.opa_value.specs.Truth.{is_true, is_false, all_of, any_of, not_of, strict}
use Rattle.opa_cells.specs.declared.instance.InstanceId.{InstanceId}
use Rattle.opa_cells.specs.Instances.{named}
use Rattle.opa_tree.specs.declared.kinds.Quant.{Quant}
use Rattle.opa_tree.specs.declared.kinds.Quant.TheVariants as quant
use Rattle.opa_tree.specs.declared.kinds.WinKind.{WinKind}
use Rattle.opa_tree.specs.declared.kinds.WinKind.TheVariants as win
use Rattle.opa_tree.specs.declared.expr.Expr.{Expr}
use Rattle.opa_tree.specs.declared.expr.Expr.TheOpen.{Expr-F, Row-F, Const, Attr, All, Any, Not, Op, Certain, Known, Over, Window, Rolling, Table}
use Rattle.opa_tree.specs.declared.expr.Expr.TheFolds.{fold-Expr}
use Rattle.opa_window.specs.Folds.{sum_value, greatest, least, run_value}
use Rattle.opa_window.specs.Windows.{before, on_or_after, years_since, value_at, in_window, interval_sometimes, rolling_sometimes}
use Rattle.opa_case.specs.Live.{Names}
use Rattle.opa_case.specs.Shapes.{Shape}
use Rattle.opa_mean.specs.Meaning.{certain_of, known_of, choose, amount, first_value, quant_of, rolling}
use Rattle.opa_mean.specs.Operations.{op_of}
use Rattle.opa_mean.specs.Places.{owner_of}
use Rattle.opa_verify.specs.declared.listed.shade.Shade.{Shade}
use Rattle.opa_verify.specs.Listed.Listings.{Listing}
use Rattle.opa_verify.specs.Listed.Seen.{seen}
use Rattle.opa_verify.specs.Listed.Ways.{place_seen}
use Rattle.opa_verify.specs.Listed.Ways.{place_seen}

abbrev pub shown : Shade → Option Value
shown h = if h.missing then None else Some h.value

abbrev pub there : Value → Shade
there v = record { value = v; missing = false }

abbrev pub gone : Shade
gone = record { value = Uncertain; missing = true }

abbrev pub shade_of : Option Value → Shade
shade_of None = gone
shade_of (Some v) = there v

-- a function of a value
abbrev pub mapped : (Value → Value) → Shade → Shade
mapped f h = record { value = f h.value; missing = h.missing }

abbrev pub values_of : List Shade → List Value
values_of hs = map (λ h. h.value) hs

abbrev pub is_gone : Shade → Bool
is_gone h = h.missing

-- a function of several values: missing where one is
abbrev pub joined : (List Value → Value) → List Shade → Shade
joined f hs = record { value = f (values_of hs); missing = list_any is_gone hs }

-- what is missing counts as this value
abbrev pub counted_as : Value → Shade → Value
counted_as v h = if h.missing then v else h.value

-- a truth table that one value decides: what is missing counts as the value that decides nothing
abbrev pub all_shade : List Shade → Shade
all_shade hs = let v = all_of (map (counted_as (Truth true)) hs) in record { value = v; missing = list_any is_gone hs && not (is_false v) }

abbrev pub any_shade : List Shade → Shade
any_shade hs = let v = any_of (map (counted_as (Truth false)) hs) in record { value = v; missing = list_any is_gone hs && not (is_true v) }

-- what a condition takes
abbrev pub choice_shade : Shade → Shade → Shade → Shade
choice_shade c h rest = record {
  value = choose c.value h.value rest.value;
  missing = c.missing || (is_true c.value && h.missing) || (is_false c.value && rest.missing);
}

abbrev pub Shading : Type 0
Shading = List InstanceId → ℕ → Shade

abbrev pub each_shade : List Shading → List InstanceId → ℕ → List Shade
each_shade ms enclosing d = map (λ m. m enclosing d) ms

abbrev pub at_place_shade : Option (Option InstanceId) → (InstanceId → Shade) → Shade
at_place_shade None f = gone
at_place_shade (Some None) f = there Uncertain
at_place_shade (Some (Some i)) f = f i

abbrev pub item_shade : Quant → List Shade → Shade
item_shade quant.SumIf (number ∷ test ∷ []) = choice_shade test number (there (Num (pos 0)))
item_shade q (h ∷ []) = h
item_shade q _ = there Uncertain

abbrev pub quant_shade : Quant → List Shade → Shade
quant_shade quant.ForAll hs = all_shade hs
quant_shade quant.Exists hs = any_shade hs
quant_shade quant.Count hs = there (amount (length hs))
quant_shade quant.For hs = if nat_le 2 (length hs) then gone else joined first_value hs
quant_shade q hs = joined (quant_of q) hs

abbrev pub over_shade : Quant → ℕ → Option (Option Names) → List Shading → Shading
over_shade q target None ms enclosing d = gone
over_shade q target (Some None) ms enclosing d = there Unknown
over_shade q target (Some (Some names)) ms enclosing d = quant_shade q (map (λ n. item_shade q (each_shade ms (named target n ∷ enclosing) d)) names)

-- a line's values, and on which days they are missing as truth values
abbrev pub values_on : (ℕ → Shade) → ℕ → Value
values_on x d = (x d).value

abbrev pub gaps_on : (ℕ → Shade) → ℕ → Value
gaps_on x d = Truth (x d).missing

-- from a date on and below another: missing where a date is, or x on a day of the window
abbrev pub span_shade : (List Value → Value) → (ℕ → Shade) → Shade → Shade → Shade
span_shade fold x start end = record {
  value = in_window fold (values_on x) start.value end.value;
  missing = start.missing || end.missing || is_true (interval_sometimes (gaps_on x) start.value end.value);
}

abbrev pub date_shade : (ℕ → Shade) → Shade → Shade
date_shade x date = record {
  value = value_at (values_on x) date.value;
  missing = date.missing || is_true (value_at (gaps_on x) date.value);
}

abbrev pub window_shade : WinKind → List Shading → Shading
window_shade win.Before (date ∷ []) enclosing d = mapped (λ v. before v d) (date enclosing d)
window_shade win.OnOrAfter (date ∷ []) enclosing d = mapped (λ v. on_or_after v d) (date enclosing d)
window_shade win.YearsSince (date ∷ []) enclosing d = mapped (λ v. years_since v d) (date enclosing d)
window_shade win.ValueAt (date ∷ x ∷ []) enclosing d = date_shade (x enclosing) (date enclosing d)
window_shade win.Always (start ∷ end ∷ x ∷ []) enclosing d = span_shade all_of (x enclosing) (start enclosing d) (end enclosing d)
window_shade win.Sometimes (start ∷ end ∷ x ∷ []) enclosing d = span_shade any_of (x enclosing) (start enclosing d) (end enclosing d)
window_shade win.DailySum (start ∷ end ∷ x ∷ []) enclosing d = span_shade (strict sum_value) (x enclosing) (start enclosing d) (end enclosing d)
window_shade win.Maximum (start ∷ end ∷ x ∷ []) enclosing d = span_shade (strict greatest) (x enclosing) (start enclosing d) (end enclosing d)
window_shade win.Minimum (start ∷ end ∷ x ∷ []) enclosing d = span_shade (strict least) (x enclosing) (start enclosing d) (end enclosing d)
window_shade win.ConsecutiveDays (start ∷ end ∷ x ∷ []) enclosing d = span_shade (strict run_value) (x enclosing) (start enclosing d) (end enclosing d)
window_shade _ _ enclosing d = there Uncertain

abbrev pub rolling_shade : Bool → ℕ → (ℕ → Shade) → ℕ → Shade
rolling_shade b n x d = record { value = rolling b n (values_on x) d; missing = is_true (rolling_sometimes n (gaps_on x) d) }

abbrev pub RowShading : Type 0
RowShading = Row-F Shading (Unit {0})

abbrev pub table_shade : List RowShading → Shading → Shading
table_shade [] last enclosing d = last enclosing d
table_shade (row ∷ rows) last enclosing d = choice_shade (row.cond enclosing d) (row.value enclosing d) (table_shade rows last enclosing d)

abbrev pub shade_step : Shape → Listing → Expr-F Shading RowShading → Shading
shade_step s k (Const v) enclosing d = there v
shade_step s k (Attr a) enclosing d = at_place_shade (place_seen k.container enclosing (owner_of s a)) (λ i. shade_of (k.value a i d))
shade_step s k (All ms) enclosing d = all_shade (each_shade ms enclosing d)
shade_step s k (Any ms) enclosing d = any_shade (each_shade ms enclosing d)
shade_step s k (Not m) enclosing d = mapped not_of (m enclosing d)
shade_step s k (Op o ms) enclosing d = joined (strict (op_of o)) (each_shade ms enclosing d)
shade_step s k (Certain m) enclosing d = mapped certain_of (m enclosing d)
shade_step s k (Known m) enclosing d = mapped known_of (m enclosing d)
shade_step s k (Over q r ms) enclosing d = at_place_shade (place_seen k.container enclosing (s.source r)) (λ i. over_shade q (s.target r) (k.members r i) ms enclosing d)
shade_step s k (Window w ms) enclosing d = window_shade w ms enclosing d
shade_step s k (Rolling b n m) enclosing d = rolling_shade b n (m enclosing) d
shade_step s k (Table rows m) enclosing d = table_shade rows m enclosing d

abbrev pub shade_row : Row-F Shading RowShading → RowShading
shade_row row = record { cond = row.cond; value = row.value }

-- what is seen of a tree, as a value and whether it is missing
unfoldable pub shade : Shape → Listing → Expr → Shading
shade s k = fold-Expr Shading RowShading (shade_step s k) shade_row

-- what is seen is the value, unless it is missing
abbrev pub SeenByShades : Type 0
SeenByShades = (s : Shape) (k : Listing) (e : Expr) (enclosing : List InstanceId) (d : ℕ) → seen s k e enclosing d ≡ shown (shade s k e enclosing d)
