-- The value of a tree at enclosing instances, the innermost first, and a day, over any look.
use Rattle.std.specs.Prelude.{ℕ, ◌*◌, pos, Bool, true, false, List, [], ◌∷◌, Option, None, Some, map, filter, length}
use Rattle.opa_value.specs.declared.value.Value.{Value}
use Rattle.opa_value.specs.declared.value.Value.TheVariants.{Unknown, Uncertain, Bool as Truth, Num}
use Rattle.opa_value.specs.Truth.{is_true, all_of, any_of, not_of, strict}
use Rattle.opa_cells.specs.declared.instance.InstanceId.{InstanceId}
use Rattle.opa_cells.specs.Instances.{named}
use Rattle.opa_tree.specs.declared.kinds.Quant.{Quant}
use Rattle.opa_tree.specs.declared.kinds.Quant.TheVariants as quant
use Rattle.opa_tree.specs.declared.kinds.WinKind.{WinKind}
use Rattle.opa_tree.specs.declared.kinds.WinKind.TheVariants as win
use Rattle.opa_tree.specs.declared.expr.Expr.{Expr}
use Rattle.opa_tree.specs.declared.expr.Row.{Row}
use Rattle.opa_tree.specs.declared.expr.Expr.TheOpen.{Expr-F, Row-F, Const, Attr, All, Any, Not, Op, Certain, Known, Over, Window, Rolling, Table}
use Rattle.opa_tree.specs.declared.expr.Expr.TheFolds.{fold-Expr}
use Rattle.opa_window.specs.Folds.{number_of, sum_value, greatest, least}
use Rattle.opa_window.specs.Windows.{value_at, interval_always, interval_sometimes, interval_sum, interval_max, interval_min, interval_run, rolling_always, rolling_sometimes, before, on_or_after, years_since}
use Rattle.opa_case.specs.Shapes.{Shape}
use Rattle.opa_mean.specs.Looks.{Look}
use Rattle.opa_mean.specs.Operations.{op_of}
use Rattle.opa_mean.specs.Places.{owner_of, place}

-- a value for each list of enclosing instances and each day
abbrev pub Meaning : Type 0
Meaning = List InstanceId → ℕ → Value

-- the values of several operands
abbrev pub each : List Meaning → List InstanceId → ℕ → List Value
each ms enclosing d = map (λ m. m enclosing d) ms

-- at the place, which an attribute of an accepted rule has; without one uncertain
abbrev pub at_place : Option InstanceId → (InstanceId → Value) → Value
at_place None f = Uncertain
at_place (Some i) f = f i

-- unknown if the operand is unknown, false if it is uncertain, else true
abbrev pub certain_of : Value → Value
certain_of Unknown = Unknown
certain_of Uncertain = Truth false
certain_of _ = Truth true

-- false if the operand is unknown, else true
abbrev pub known_of : Value → Value
known_of Unknown = Truth false
known_of _ = Truth true

-- of a condition: a true one gives the first value, a false one the second, an unknown one unknown, another uncertain
abbrev pub choose : Value → Value → Value → Value
choose (Truth true) v rest = v
choose (Truth false) v rest = rest
choose Unknown v rest = Unknown
choose _ v rest = Uncertain

-- a number of things
abbrev pub amount : ℕ → Value
amount n = number_of (pos (n * 10000))

-- how many values are true
abbrev pub true_count : List Value → Value
true_count vs = amount (length (filter is_true vs))

-- the first value, uncertain where there is none
abbrev pub first_value : List Value → Value
first_value [] = Uncertain
first_value (v ∷ vs) = v

-- What a quantifier makes of a listed instance's operands: the value of the only one. Of a number and its test it makes the
-- number where the test is true, 0 where it is false, and else what the test is.
abbrev pub item : Quant → List Value → Value
item quant.SumIf (number ∷ test ∷ []) = choose test number (Num (pos 0))
item q (v ∷ []) = v
item q _ = Uncertain

-- what a quantifier makes of the items
abbrev pub quant_of : Quant → List Value → Value
quant_of quant.ForAll = all_of
quant_of quant.Exists = any_of
quant_of quant.For = first_value
quant_of quant.Count = λ vs. amount (length vs)
quant_of quant.CountIf = strict true_count
quant_of quant.Sum = strict sum_value
quant_of quant.SumIf = strict sum_value
quant_of quant.Maximum = strict greatest
quant_of quant.Minimum = strict least

-- unknown where the list is unknown; else each listed instance in turn is the innermost enclosing one
abbrev pub over : Quant → ℕ → Option (List (List ℕ)) → List Meaning → Meaning
over q target None ms enclosing d = Unknown
over q target (Some names) ms enclosing d = quant_of q (map (λ name. item q (each ms (named target name ∷ enclosing) d)) names)

-- a function over time: its dates are those at the day itself, and x is looked at on the window's days
abbrev pub window : WinKind → List Meaning → Meaning
window win.Before (date ∷ []) enclosing d = before (date enclosing d) d
window win.OnOrAfter (date ∷ []) enclosing d = on_or_after (date enclosing d) d
window win.YearsSince (date ∷ []) enclosing d = years_since (date enclosing d) d
window win.ValueAt (date ∷ x ∷ []) enclosing d = value_at (x enclosing) (date enclosing d)
window win.Always (start ∷ end ∷ x ∷ []) enclosing d = interval_always (x enclosing) (start enclosing d) (end enclosing d)
window win.Sometimes (start ∷ end ∷ x ∷ []) enclosing d = interval_sometimes (x enclosing) (start enclosing d) (end enclosing d)
window win.DailySum (start ∷ end ∷ x ∷ []) enclosing d = interval_sum (x enclosing) (start enclosing d) (end enclosing d)
window win.Maximum (start ∷ end ∷ x ∷ []) enclosing d = interval_max (x enclosing) (start enclosing d) (end enclosing d)
window win.Minimum (start ∷ end ∷ x ∷ []) enclosing d = interval_min (x enclosing) (start enclosing d) (end enclosing d)
window win.ConsecutiveDays (start ∷ end ∷ x ∷ []) enclosing d = interval_run (x enclosing) (start enclosing d) (end enclosing d)
window _ _ enclosing d = Uncertain

-- all, or any, of x over so many days that end with the day itself
abbrev pub rolling : Bool → ℕ → (ℕ → Value) → ℕ → Value
rolling true n x d = rolling_always n x d
rolling false n x d = rolling_sometimes n x d

abbrev pub RowMeaning : Type 0
RowMeaning = Row-F Meaning (Unit {0})

-- rows are tried in order, and behind them stands the last value
abbrev pub table : List RowMeaning → Meaning → Meaning
table [] last enclosing d = last enclosing d
table (row ∷ rows) last enclosing d = choose (row.cond enclosing d) (row.value enclosing d) (table rows last enclosing d)

-- one level of a tree, with the meaning of each part in its place
abbrev pub tree_step : Shape → Look → Expr-F Meaning RowMeaning → Meaning
tree_step s l (Const v) enclosing d = v
tree_step s l (Attr a) enclosing d = at_place (place l.container enclosing (owner_of s a)) (λ i. l.value a i d)
tree_step s l (All ms) enclosing d = all_of (each ms enclosing d)
tree_step s l (Any ms) enclosing d = any_of (each ms enclosing d)
tree_step s l (Not m) enclosing d = not_of (m enclosing d)
tree_step s l (Op k ms) enclosing d = strict (op_of k) (each ms enclosing d)
tree_step s l (Certain m) enclosing d = certain_of (m enclosing d)
tree_step s l (Known m) enclosing d = known_of (m enclosing d)
tree_step s l (Over q r ms) enclosing d = at_place (place l.container enclosing (s.source r)) (λ i. over q (s.target r) (l.members r i) ms enclosing d)
tree_step s l (Window k ms) enclosing d = window k ms enclosing d
tree_step s l (Rolling b n m) enclosing d = rolling b n (m enclosing) d
tree_step s l (Table rows m) enclosing d = table rows m enclosing d

abbrev pub row_step : Row-F Meaning RowMeaning → RowMeaning
row_step row = record { cond = row.cond; value = row.value }

-- the value of a tree
unfoldable pub value : Shape → Look → Expr → Meaning
value s l = fold-Expr Meaning RowMeaning (tree_step s l) row_step

-- a row with the meanings of its condition and of its value
abbrev pub row_meaning : Shape → Look → Row → RowMeaning
row_meaning s l row = record { cond = value s l row.cond; value = value s l row.value }
