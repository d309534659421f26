-- What the value of a tree rests on.
use Rattle.std.specs.Prelude.{ℕ, ◌+◌, ◌-◌, Bool, true, false, ◌&&◌, nat_lt, if◌then◌else◌, List, [], ◌∷◌, ◌++◌, map, Option, None, Some, find, flat_map}
use Rattle.opa_date.specs.declared.TheConstants.{DAYS}
use Rattle.opa_value.specs.declared.value.Value.{Value}
use Rattle.opa_value.specs.declared.value.Value.TheVariants.{Bool as Truth, Day}
use Rattle.opa_value.specs.Truth.{is_true, is_false}
use Rattle.opa_model.specs.declared.ids.AttrId.{AttrId}
use Rattle.opa_model.specs.declared.ids.RelId.{RelId}
use Rattle.opa_cells.specs.declared.instance.InstanceId.{InstanceId}
use Rattle.opa_cells.specs.Instances.{named}
use Rattle.opa_tree.specs.declared.kinds.Quant.{Quant}
use Rattle.opa_tree.specs.declared.kinds.Quant.TheVariants as quant
use Rattle.opa_tree.specs.declared.expr.Expr.{Expr}
use Rattle.opa_tree.specs.declared.expr.Row.{Row}
use Rattle.opa_tree.specs.declared.expr.Expr.TheOpen.{Expr-F, Row-F, Const, Attr, All, Any, Not, Op, Certain, Known, Over, Window, Rolling, Table}
use Rattle.opa_tree.specs.declared.expr.Expr.TheFolds.{para-Expr}
use Rattle.opa_window.specs.Days.{days}
use Rattle.opa_case.specs.Shapes.{Shape}
use Rattle.opa_mean.specs.Looks.{Look}
use Rattle.opa_mean.specs.Meaning.{value, item}
use Rattle.opa_mean.specs.Places.{owner_of, place}

-- a point (an attribute, an instance and a day), or a list
pub data Use : Type 0 where
  Point : AttrId → InstanceId → ℕ → Use
  Listed : RelId → InstanceId → Use

abbrev pub Uses : Type 0
Uses = List InstanceId → ℕ → List Use

-- a part of a tree with its uses
abbrev pub Used : Type 0
Used = Expr × Uses

abbrev pub RowUses : Type 0
RowUses = Row-F Uses (Unit {0})

abbrev pub RowUsed : Type 0
RowUsed = Row × RowUses

abbrev pub found_or : {X : Type 0} → Option X → (X → List Use) → List Use → List Use
found_or None u rest = rest
found_or (Some x) u rest = u x

-- the uses of the first that passes, else of all
abbrev pub first_or_all : {X : Type 0} → (X → Bool) → (X → List Use) → List X → List Use
first_or_all p u xs = found_or (find p xs) u (flat_map u xs)

-- over a known list: of the first member that decides, else of each
abbrev pub member_uses : Quant → (List ℕ → Value) → (List ℕ → List Use) → List (List ℕ) → List Use
member_uses quant.ForAll v u names = first_or_all (λ n. is_false (v n)) u names
member_uses quant.Exists v u names = first_or_all (λ n. is_true (v n)) u names
member_uses _ v u names = flat_map u names

abbrev pub list_uses : Option (List (List ℕ)) → (List (List ℕ) → List Use) → List Use
list_uses None u = []
list_uses (Some names) u = u names

abbrev pub at_place_uses : Option InstanceId → (InstanceId → List Use) → List Use
at_place_uses None u = []
at_place_uses (Some i) u = u i

-- on a date of the calendar
abbrev pub on_date_uses : (ℕ → List Use) → Value → List Use
on_date_uses u (Day s) = if nat_lt s DAYS then u s else []
on_date_uses u _ = []

-- on each day of a window between two dates of the calendar
abbrev pub in_window_uses : (ℕ → List Use) → Value → Value → List Use
in_window_uses u (Day s) (Day t) = if nat_lt s DAYS && nat_lt t DAYS then flat_map u (days s (t - s)) else []
in_window_uses u _ _ = []

-- on each of so many days that end with day d
abbrev pub last_days_uses : ℕ → (ℕ → List Use) → ℕ → List Use
last_days_uses n u d = flat_map u (days (d + 1 - n) (d + 1 - (d + 1 - n)))

-- of a condition and what stands behind it: where it is true the first, where it is false the second
abbrev pub after_cond : Value → List Use → List Use → List Use
after_cond (Truth true) us rest = us
after_cond (Truth false) us rest = rest
after_cond _ us rest = []

module _ (s : Shape) (l : Look) where
  -- of a member: of its operand; of a number and its test those of the test, and of the number where the test is true
  abbrev pub item_uses : Quant → List Used → Uses
  item_uses quant.SumIf (number ∷ test ∷ []) enclosing d = test.1 enclosing d ++ (if is_true (value s l test.0 enclosing d) then number.1 enclosing d else [])
  item_uses q (x ∷ []) enclosing d = x.1 enclosing d
  item_uses q _ enclosing d = []

  -- the value of a member
  abbrev pub item_value : Quant → List Used → List InstanceId → ℕ → Value
  item_value q xs enclosing d = item q (map (λ (x : Used). value s l x.0 enclosing d) xs)

  abbrev pub over_uses : Quant → ℕ → Option (List (List ℕ)) → List Used → Uses
  over_uses q target members xs enclosing d = list_uses members (λ names.
      member_uses q (λ n. item_value q xs (named target n ∷ enclosing) d) (λ n. item_uses q xs (named target n ∷ enclosing) d) names)

  -- of the dates, and of x on the days that they tell
  abbrev pub window_uses : List Used → Uses
  window_uses (date ∷ []) enclosing d = date.1 enclosing d
  window_uses (date ∷ x ∷ []) enclosing d = date.1 enclosing d ++ on_date_uses (x.1 enclosing) (value s l date.0 enclosing d)
  window_uses (start ∷ end ∷ x ∷ []) enclosing d =
      start.1 enclosing d ++ (end.1 enclosing d ++ in_window_uses (x.1 enclosing) (value s l start.0 enclosing d) (value s l end.0 enclosing d))
  window_uses _ enclosing d = []

  -- the conditions up to the first that isn't false, and the value that is taken
  abbrev pub table_uses : List RowUsed → Uses → Uses
  table_uses [] last enclosing d = last enclosing d
  table_uses (row ∷ rows) last enclosing d =
      row.1.cond enclosing d ++ after_cond (value s l row.0.cond enclosing d) (row.1.value enclosing d) (table_uses rows last enclosing d)

  abbrev pub uses_step : Expr-F Used RowUsed → Uses
  uses_step (Const v) enclosing d = []
  uses_step (Attr a) enclosing d = at_place_uses (place l.container enclosing (owner_of s a)) (λ i. Point a i d ∷ [])
  uses_step (All xs) enclosing d = first_or_all (λ x. is_false (value s l x.0 enclosing d)) (λ x. x.1 enclosing d) xs
  uses_step (Any xs) enclosing d = first_or_all (λ x. is_true (value s l x.0 enclosing d)) (λ x. x.1 enclosing d) xs
  uses_step (Not x) enclosing d = x.1 enclosing d
  uses_step (Op k xs) enclosing d = flat_map (λ x. x.1 enclosing d) xs
  uses_step (Certain x) enclosing d = x.1 enclosing d
  uses_step (Known x) enclosing d = x.1 enclosing d
  uses_step (Over q r xs) enclosing d = at_place_uses (place l.container enclosing (s.source r)) (λ i. Listed r i ∷ over_uses q (s.target r) (l.members r i) xs enclosing d)
  uses_step (Window k xs) enclosing d = window_uses xs enclosing d
  uses_step (Rolling b n x) enclosing d = last_days_uses n (x.1 enclosing) d
  uses_step (Table rows x) enclosing d = table_uses rows x.1 enclosing d

  abbrev pub uses_row : Row-F Used RowUsed → RowUses
  uses_row row = record { cond = row.cond.1; value = row.value.1 }

  -- the uses of a tree at enclosing instances and a day
  unfoldable pub uses : Expr → Uses
  uses = para-Expr Uses RowUses uses_step uses_row
