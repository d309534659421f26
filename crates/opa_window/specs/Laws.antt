-- What holds of the functions over time.
use Rattle.std.specs.Prelude.{◌≡◌, ◌≤◌, ◌<◌, ◌≤ℤ◌, ℕ, ℤ, true, List, ◌∷◌, ◌++◌, map}
use Rattle.std.specs.List.{Contains}
use Rattle.opa_date.specs.declared.TheConstants.{DAYS}
use Rattle.opa_value.specs.declared.value.Value.{Value}
use Rattle.opa_value.specs.declared.value.Value.TheVariants as value
use Rattle.opa_window.specs.Folds.{greatest, least, longest}
use Rattle.opa_window.specs.Runs.{times}
use Rattle.opa_window.specs.Windows.{in_window, value_at, rolling_always, rolling_sometimes}

-- one of the items, which none is above
pub record IsGreatest {K : Type 0} (is_at_most : K → K → Type 0) (ks : List K) (k : K) : Type 0 where
  pub one : Contains ks k
  pub none_above : (j : K) → Contains ks j → is_at_most j k

-- the greatest of numbers or days is one of them, which none is above
abbrev pub GreatestIsGreatest : Type 0
GreatestIsGreatest =
    ((n : ℤ) (ns : List ℤ) → (k : ℤ) × IsGreatest (λ i j. i ≤ℤ j) (n ∷ ns) k × (greatest (map value.Num (n ∷ ns)) ≡ value.Num k))
    × ((d : ℕ) (ds : List ℕ) → (k : ℕ) × IsGreatest (λ i j. i ≤ j) (d ∷ ds) k × (greatest (map value.Day (d ∷ ds)) ≡ value.Day k))

-- the least is one of them, which none is below
abbrev pub LeastIsLeast : Type 0
LeastIsLeast =
    ((n : ℤ) (ns : List ℤ) → (k : ℤ) × IsGreatest (λ i j. j ≤ℤ i) (n ∷ ns) k × (least (map value.Num (n ∷ ns)) ≡ value.Num k))
    × ((d : ℕ) (ds : List ℕ) → (k : ℕ) × IsGreatest (λ i j. j ≤ i) (d ∷ ds) k × (least (map value.Day (d ∷ ds)) ≡ value.Day k))

-- so many neighbouring values are true
pub record HasRun (vs : List Value) (n : ℕ) : Type 0 where
  pub before : List Value
  pub after : List Value
  pub parts : vs ≡ before ++ times n (value.Bool true) ++ after

-- the longest run is one, and no run is longer
abbrev pub LongestIsLongest : Type 0
LongestIsLongest = (vs : List Value) → HasRun vs (longest vs) × ((n : ℕ) → HasRun vs n → n ≤ longest vs)

-- what is equal on the calendar's days has equal windows
pub record ReadsTheCalendar : Type 0 where
  pub windows : (fold : List Value → Value) (x y : ℕ → Value) → ((d : ℕ) → d < DAYS → x d ≡ y d) → (start end : Value) → in_window fold x start end ≡ in_window fold y start end
  pub dates : (x y : ℕ → Value) → ((d : ℕ) → d < DAYS → x d ≡ y d) → (date : Value) → value_at x date ≡ value_at y date
  pub rolling_all : (n : ℕ) (x y : ℕ → Value) → ((d : ℕ) → d < DAYS → x d ≡ y d) → (d : ℕ) → d < DAYS → rolling_always n x d ≡ rolling_always n y d
  pub rolling_any : (n : ℕ) (x y : ℕ → Value) → ((d : ℕ) → d < DAYS → x d ≡ y d) → (d : ℕ) → d < DAYS → rolling_sometimes n x d ≡ rolling_sometimes n y d
