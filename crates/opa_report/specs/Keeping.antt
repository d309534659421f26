-- Quantifiers that were spread, kept while the members of a list are gone through.
use Rattle.std.specs.Prelude.{◌≡◌, ◌⊎◌, ℕ, ◌<◌, Bool, true, List, length, Contains}
use Rattle.std.specs.List.{AllByRecursion}
use Rattle.std.proofs.Math.ListN.{get_or}
use Rattle.opa_date.specs.declared.TheConstants.{DAYS}
use Rattle.opa_line.specs.Lines.{StandsFor}
use Rattle.opa_case.specs.Shapes.{Shape}
use Rattle.opa_cells.specs.declared.instance.InstanceId.{InstanceId}
use Rattle.opa_tree.specs.declared.expr.Expr.{Expr}
use Rattle.opa_tree.specs.declared.expr.Row.{Row}
use Rattle.opa_mean.specs.Looks.{Look}
use Rattle.opa_mean.specs.Meaning.{value}
use Rattle.opa_mean.specs.Places.{place}
use Rattle.opa_mean.specs.Uses.{Use, uses}
use Rattle.opa_report.specs.Adding.{IsUsed}
use Rattle.opa_report.specs.DaySets.Sets.{on}
use Rattle.opa_report.specs.Finding.{Has}
use Rattle.opa_report.specs.declared.kept.Kept.{Kept}
use Rattle.opa_report.specs.declared.kept.SpreadTree.{SpreadTree}
use Rattle.opa_report.specs.declared.kept_lines.KeptLine.{KeptLine}
use Rattle.opa_report.specs.declared.found.Found.{Found}

-- an entity is listed within, or has one place at two lists of enclosing instances
abbrev pub HasOnePlace : Look → List ℕ → List InstanceId → List InstanceId → ℕ → Type 0
HasOnePlace l hidden e f o = Contains hidden o ⊎ (place l.container e o ≡ place l.container f o)

-- at two further lists each such entity has one place
abbrev pub Follows : Look → List ℕ → List InstanceId → List InstanceId → List InstanceId → List InstanceId → Type 0
Follows l hidden e f x y = (o : ℕ) → HasOnePlace l hidden e f o → place l.container x o ≡ place l.container y o

module _ (s : Shape) (l : Look) where
  -- a tree has the same values and uses at two lists of enclosing instances
  pub record IsAlike (x y : List InstanceId) (t : Expr) : Type 0 where
    pub values : value s l t x ≡ value s l t y
    pub used : uses s l t x ≡ uses s l t y

  pub record IsRowAlike (x y : List InstanceId) (r : Row) : Type 0 where
    pub cond : IsAlike x y r.cond
    pub value : IsAlike x y r.value

  abbrev pub Agrees : List ℕ → List InstanceId → List InstanceId → Expr → Type 0
  Agrees hidden e f t = (x y : List InstanceId) → Follows l hidden e f x y → IsAlike x y t

  abbrev pub AgreeEach : List ℕ → List InstanceId → List InstanceId → List Expr → Type 0
  AgreeEach hidden e f ts = (x y : List InstanceId) → Follows l hidden e f x y → AllByRecursion (IsAlike x y) ts

  abbrev pub AgreeRows : List ℕ → List InstanceId → List InstanceId → List Row → Type 0
  AgreeRows hidden e f rs = (x y : List InstanceId) → Follows l hidden e f x y → AllByRecursion (IsRowAlike x y) rs

  -- what a tree uses on the days of a set was found
  abbrev pub IsFound : Found → Expr → List InstanceId → List (ℕ × Bool) → Type 0
  IsFound found t e days = (u : Use) → IsUsed (on days) (uses s l t e) u → Has found u

  abbrev pub AreFound : Found → List SpreadTree → Type 0
  AreFound found ks = (k : ℕ) (x : SpreadTree) → k < length ks → IsFound found (get_or ks k x).tree.now (get_or ks k x).enclosing (get_or ks k x).days

  -- the line is that of its tree
  abbrev pub IsLine : KeptLine → Type 0
  IsLine k = StandsFor DAYS (value s l k.tree.now k.enclosing) k.line

  abbrev pub AreKeptLines : List KeptLine → Type 0
  AreKeptLines ks = (k : ℕ) (x : KeptLine) → k < length ks → IsLine (get_or ks k x)

  -- what is kept of trees was found, and the lines that are kept are theirs
  abbrev pub AreKept : Found → Kept → Type 0
  AreKept found kept = AreFound found kept.trees.items × AreKeptLines kept.lines.items

  abbrev pub StayKept : Kept → Kept → Type 0
  StayKept old new = (found : Found) → AreKept found old → AreKept found new

  -- wherever what is kept was found, a tree was found on the days of the set that aren't missing
  pub record IsMissing (ks : List SpreadTree) (t : Expr) (e : List InstanceId) (days missing : List (ℕ × Bool)) : Type 0 where
    pub within : (d : ℕ) → d < DAYS → on missing d ≡ true → on days d ≡ true
    pub others : (found : Found) → AreFound found ks → (d : ℕ) → d < DAYS → on days d ≡ true → (on missing d ≡ true) ⊎ ((u : Use) → Contains (uses s l t e d) u → Has found u)
