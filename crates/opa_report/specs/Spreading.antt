-- Uses of several trees on the days of a set.
use Rattle.std.specs.Prelude.{◌≡◌, ℕ, ◌+◌, ◌-◌, ◌<◌, Bool, true, false, ◌&&◌, nat_lt, if◌then◌else◌, List, [], ◌∷◌, Option, None, Some, Contains}
use Rattle.opa_date.specs.declared.TheConstants.{DAYS}
use Rattle.opa_value.specs.declared.value.Value.{Value}
use Rattle.opa_value.specs.declared.value.Value.TheVariants.{Day}
use Rattle.opa_value.specs.Truth.{is_true, is_false}
use Rattle.opa_case.specs.Shapes.{Shape}
use Rattle.opa_cells.specs.declared.instance.InstanceId.{InstanceId}
use Rattle.opa_line.specs.Lines.{StandsFor}
use Rattle.opa_report.specs.DaySets.Sets.{on}
use Rattle.opa_tree.specs.declared.expr.Expr.{Expr}
use Rattle.opa_tree.specs.declared.expr.Row.{Row}
use Rattle.opa_tree.specs.declared.kinds.Quant.{Quant}
use Rattle.opa_tree.specs.declared.kinds.Quant.TheVariants as quant
use Rattle.opa_window.specs.Days.{days}
use Rattle.opa_mean.specs.Looks.{Look}
use Rattle.opa_mean.specs.Meaning.{value}
use Rattle.opa_mean.specs.PartUses.{rows_uses}
use Rattle.opa_mean.specs.Uses.{Uses, uses}
use Rattle.opa_report.specs.declared.found.Found.{Found}
use Rattle.opa_report.specs.Adding.{Adds}

-- the value is that truth value
abbrev pub is_truth : Bool → Value → Bool
is_truth true v = is_true v
is_truth false v = is_false v

-- the truth value at which a quantifier needs no other member
abbrev pub decider : Quant → Option Bool
decider quant.ForAll = Some false
decider quant.Exists = Some true
decider _ = None

abbrev pub is_sum_if : Quant → Bool
is_sum_if quant.SumIf = true
is_sum_if _ = false

-- the days that a date tells
abbrev pub date_days : Value → List ℕ
date_days (Day s) = if nat_lt s DAYS then s ∷ [] else []
date_days _ = []

-- the days of the window between two dates
abbrev pub window_days : Value → Value → List ℕ
window_days (Day s) (Day t) = if nat_lt s DAYS && nat_lt t DAYS then days s (t - s) else []
window_days _ _ = []

-- the n days that end with a day
abbrev pub last_days : ℕ → ℕ → List ℕ
last_days n d = days (d + 1 - n) (d + 1 - (d + 1 - n))

-- a day of the set leads to the other day
pub record LeadsTo (set : ℕ → Bool) (to : ℕ → List ℕ) (e : ℕ) : Type 0 where
  pub day : ℕ
  pub within : day < DAYS
  pub is_on : set day ≡ true
  pub there : Contains (to day) e

module _ (s : Shape) (l : Look) where
  -- each condition is false
  abbrev pub all_false : List Row → List InstanceId → ℕ → Bool
  all_false [] enclosing d = true
  all_false (r ∷ rs) enclosing d = is_false (value s l r.cond enclosing d) && all_false rs enclosing d

  -- the lines of trees, one by one
  abbrev pub AreLines : List InstanceId → List Expr → List (List (ℕ × Value)) → Type 0
  AreLines enclosing [] [] = Unit {0}
  AreLines enclosing (t ∷ ts) (x ∷ xs) = StandsFor DAYS (value s l t enclosing) x × AreLines enclosing ts xs
  AreLines enclosing _ _ = ⊥

  abbrev pub none : Uses
  none enclosing d = []

  -- of a number those where its test is true
  abbrev pub taken_uses : Expr → Expr → Uses
  taken_uses number test enclosing d = if is_true (value s l test enclosing d) then uses s l number enclosing d else []

  -- the uses of rows are added, and the days are left on which each condition is false
  pub record AddsRows (rs : List Row) (enclosing : List InstanceId) (days : List (ℕ × Bool)) (old new : Found) (rest : List (ℕ × Bool)) : Type 0 where
    pub adds : Adds (on days) (rows_uses s l rs none enclosing) old new
    pub left : StandsFor DAYS (λ d. on days d && all_false rs enclosing d) rest
