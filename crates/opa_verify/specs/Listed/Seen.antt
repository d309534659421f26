-- The value of a tree over what a report lists, or that it is missing there.
use Rattle.std.specs.Prelude.{ℕ, pos, Bool, true, false, ◌&&◌, nat_lt, nat_le, if◌then◌else◌, List, [], ◌∷◌, map, length, Option, None, Some}
use Rattle.std.specs.List.{list_any}
use Rattle.std.specs.Option.{option_map, option_map_or, option_and_then}
use Rattle.opa_date.specs.declared.TheConstants.{DAYS}
use Rattle.opa_value.specs.declared.value.Value.{Value}
use Rattle.opa_value.specs.declared.value.Value.TheVariants.{Unknown, Uncertain, Bool as Truth, Num, Day}
use Rattle.opa_value.specs.Truth.{is_true, is_false, all_of, any_of, not_of, strict, unless_open}
use Rattle.opa_cells.specs.declared.instance.InstanceId.{InstanceId}
use Rattle.opa_cells.specs.Instances.{named}
use Rattle.opa_tree.specs.declared.kinds.Quant.{Quant}
use Rattle.opa_tree.specs.declared.kinds.Quant.TheVariants as quant
use Rattle.opa_tree.specs.declared.kinds.WinKind.{WinKind}
use Rattle.opa_tree.specs.declared.kinds.WinKind.TheVariants as win
use Rattle.opa_tree.specs.declared.expr.Expr.{Expr}
use Rattle.opa_tree.specs.declared.expr.Expr.TheOpen.{Expr-F, Row-F, Const, Attr, All, Any, Not, Op, Certain, Known, Over, Window, Rolling, Table}
use Rattle.opa_tree.specs.declared.expr.Expr.TheFolds.{fold-Expr}
use Rattle.opa_window.specs.Days.{over_days, last_days}
use Rattle.opa_window.specs.Folds.{sum_value, greatest, least, run_value}
use Rattle.opa_window.specs.Windows.{before, on_or_after, years_since}
use Rattle.opa_case.specs.Live.{Names}
use Rattle.opa_case.specs.Shapes.{Shape}
use Rattle.opa_mean.specs.Meaning.{certain_of, known_of, amount, first_value, quant_of}
use Rattle.opa_mean.specs.Operations.{op_of}
use Rattle.opa_mean.specs.Places.{owner_of}
use Rattle.opa_verify.specs.Listed.Listings.{Listing}
use Rattle.opa_verify.specs.Listed.Ways.{place_seen}

-- a value or missing, for each list of enclosing instances and each day
abbrev pub Sight : Type 0
Sight = List InstanceId → ℕ → Option Value

abbrev pub each_seen : List Sight → List InstanceId → ℕ → List (Option Value)
each_seen ms enclosing d = map (λ m. m enclosing d) ms

-- all values, where none is missing
abbrev pub gathered : {X : Type 0} → List (Option X) → Option (List X)
gathered [] = Some []
gathered (None ∷ os) = None
gathered (Some x ∷ os) = option_map (λ xs. x ∷ xs) (gathered os)

abbrev pub is_seen : (Value → Bool) → Option Value → Bool
is_seen p o = option_map_or p o false

-- false if one is seen to be false, else missing if one is missing
abbrev pub all_seen : List (Option Value) → Option Value
all_seen os = if list_any (is_seen is_false) os then Some (Truth false) else option_map all_of (gathered os)

-- true if one is seen to be true, else missing if one is missing
abbrev pub any_seen : List (Option Value) → Option Value
any_seen os = if list_any (is_seen is_true) os then Some (Truth true) else option_map any_of (gathered os)

-- missing where the place is
abbrev pub at_place_seen : Option (Option InstanceId) → (InstanceId → Option Value) → Option Value
at_place_seen None f = None
at_place_seen (Some None) f = Some Uncertain
at_place_seen (Some (Some i)) f = f i

-- what a condition takes; missing where it is
abbrev pub chosen : Option Value → Option Value → Option Value → Option Value
chosen None o rest = None
chosen (Some (Truth true)) o rest = o
chosen (Some (Truth false)) o rest = rest
chosen (Some Unknown) o rest = Some Unknown
chosen (Some v) o rest = Some Uncertain

-- of a member: its operand; of a number and its test, the number is needed where the test is true
abbrev pub item_seen : Quant → List (Option Value) → Option Value
item_seen quant.SumIf (number ∷ test ∷ []) = chosen test number (Some (Num (pos 0)))
item_seen q (o ∷ []) = o
item_seen q _ = Some Uncertain

-- what a quantifier makes of its members: a count needs none of them, and two members of a relation to one are missing
abbrev pub quant_seen : Quant → List (Option Value) → Option Value
quant_seen quant.ForAll os = all_seen os
quant_seen quant.Exists os = any_seen os
quant_seen quant.Count os = Some (amount (length os))
quant_seen quant.For os = if nat_le 2 (length os) then None else option_map first_value (gathered os)
quant_seen q os = option_map (quant_of q) (gathered os)

-- missing where the list isn't listed
abbrev pub over_seen : Quant → ℕ → Option (Option Names) → List Sight → Sight
over_seen q target None ms enclosing d = None
over_seen q target (Some None) ms enclosing d = Some Unknown
over_seen q target (Some (Some names)) ms enclosing d = quant_seen q (map (λ n. item_seen q (each_seen ms (named target n ∷ enclosing) d)) names)

-- x at a date of the calendar
abbrev pub on_date_seen : (ℕ → Option Value) → Value → Option Value
on_date_seen x (Day s) = if nat_lt s DAYS then x s else Some Uncertain
on_date_seen x v = Some (unless_open (v ∷ []) Uncertain)

-- x on each day between two dates of the calendar
abbrev pub between_seen : (List Value → Value) → (ℕ → Option Value) → Value → Value → Option Value
between_seen fold x (Day s) (Day t) = if nat_lt s DAYS && nat_lt t DAYS then option_map fold (gathered (over_days x s t)) else Some Uncertain
between_seen fold x v w = Some (unless_open (v ∷ w ∷ []) Uncertain)

-- missing where a date is
abbrev pub span_seen : (List Value → Value) → (ℕ → Option Value) → Option Value → Option Value → Option Value
span_seen fold x None end = None
span_seen fold x (Some v) None = None
span_seen fold x (Some v) (Some w) = between_seen fold x v w

abbrev pub window_seen : WinKind → List Sight → Sight
window_seen win.Before (date ∷ []) enclosing d = option_map (λ v. before v d) (date enclosing d)
window_seen win.OnOrAfter (date ∷ []) enclosing d = option_map (λ v. on_or_after v d) (date enclosing d)
window_seen win.YearsSince (date ∷ []) enclosing d = option_map (λ v. years_since v d) (date enclosing d)
window_seen win.ValueAt (date ∷ x ∷ []) enclosing d = option_and_then (on_date_seen (x enclosing)) (date enclosing d)
window_seen win.Always (start ∷ end ∷ x ∷ []) enclosing d = span_seen all_of (x enclosing) (start enclosing d) (end enclosing d)
window_seen win.Sometimes (start ∷ end ∷ x ∷ []) enclosing d = span_seen any_of (x enclosing) (start enclosing d) (end enclosing d)
window_seen win.DailySum (start ∷ end ∷ x ∷ []) enclosing d = span_seen (strict sum_value) (x enclosing) (start enclosing d) (end enclosing d)
window_seen win.Maximum (start ∷ end ∷ x ∷ []) enclosing d = span_seen (strict greatest) (x enclosing) (start enclosing d) (end enclosing d)
window_seen win.Minimum (start ∷ end ∷ x ∷ []) enclosing d = span_seen (strict least) (x enclosing) (start enclosing d) (end enclosing d)
window_seen win.ConsecutiveDays (start ∷ end ∷ x ∷ []) enclosing d = span_seen (strict run_value) (x enclosing) (start enclosing d) (end enclosing d)
window_seen _ _ enclosing d = Some Uncertain

abbrev pub rolling_seen : Bool → ℕ → (ℕ → Option Value) → ℕ → Option Value
rolling_seen true n x d = option_map all_of (gathered (last_days n x d))
rolling_seen false n x d = option_map any_of (gathered (last_days n x d))

abbrev pub RowSight : Type 0
RowSight = Row-F Sight (Unit {0})

-- row by row, up to the first condition that is missing
abbrev pub table_seen : List RowSight → Sight → Sight
table_seen [] last enclosing d = last enclosing d
table_seen (row ∷ rows) last enclosing d = chosen (row.cond enclosing d) (row.value enclosing d) (table_seen rows last enclosing d)

-- one level of a tree
abbrev pub seen_step : Shape → Listing → Expr-F Sight RowSight → Sight
seen_step s k (Const v) enclosing d = Some v
seen_step s k (Attr a) enclosing d = at_place_seen (place_seen k.container enclosing (owner_of s a)) (λ i. k.value a i d)
seen_step s k (All ms) enclosing d = all_seen (each_seen ms enclosing d)
seen_step s k (Any ms) enclosing d = any_seen (each_seen ms enclosing d)
seen_step s k (Not m) enclosing d = option_map not_of (m enclosing d)
seen_step s k (Op o ms) enclosing d = option_map (strict (op_of o)) (gathered (each_seen ms enclosing d))
seen_step s k (Certain m) enclosing d = option_map certain_of (m enclosing d)
seen_step s k (Known m) enclosing d = option_map known_of (m enclosing d)
seen_step s k (Over q r ms) enclosing d = at_place_seen (place_seen k.container enclosing (s.source r)) (λ i. over_seen q (s.target r) (k.members r i) ms enclosing d)
seen_step s k (Window w ms) enclosing d = window_seen w ms enclosing d
seen_step s k (Rolling b n m) enclosing d = rolling_seen b n (m enclosing) d
seen_step s k (Table rows m) enclosing d = table_seen rows m enclosing d

abbrev pub seen_row : Row-F Sight RowSight → RowSight
seen_row row = record { cond = row.cond; value = row.value }

-- the value of a tree over what is listed, or missing
unfoldable pub seen : Shape → Listing → Expr → Sight
seen s k = fold-Expr Sight RowSight (seen_step s k) seen_row
