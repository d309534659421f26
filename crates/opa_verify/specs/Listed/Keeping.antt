-- Quantifiers whose lines are kept while a tree is gone through, and when a tree is seen alike elsewhere.
use Rattle.std.specs.Prelude.{◌≡◌, ◌⊎◌, ℕ, ◌<◌, List, length, Contains}
use Rattle.std.specs.List.{AllByRecursion}
use Rattle.std.proofs.Math.ListN.{get_or}
use Rattle.opa_date.specs.declared.TheConstants.{DAYS}
use Rattle.opa_line.specs.Lines.{StandsFor}
use Rattle.opa_case.specs.Shapes.{Shape}
use Rattle.opa_cells.specs.declared.instance.InstanceId.{InstanceId}
use Rattle.opa_tree.specs.declared.expr.Expr.{Expr}
use Rattle.opa_tree.specs.declared.expr.Row.{Row}
use Rattle.opa_verify.specs.declared.listed.kept.SeenTree.{SeenTree}
use Rattle.opa_verify.specs.Listed.Listings.{Listing}
use Rattle.opa_verify.specs.Listed.Shades.{shade}
use Rattle.opa_verify.specs.Listed.Ways.{place_seen}

-- an entity is listed within, or has one place at two lists of enclosing instances
abbrev pub HasOnePlace : Listing → List ℕ → List InstanceId → List InstanceId → ℕ → Type 0
HasOnePlace k hidden e f o = Contains hidden o ⊎ (place_seen k.container e o ≡ place_seen k.container f o)

-- at two further lists each such entity has one place
abbrev pub Follows : Listing → List ℕ → List InstanceId → List InstanceId → List InstanceId → List InstanceId → Type 0
Follows k hidden e f x y = (o : ℕ) → HasOnePlace k hidden e f o → place_seen k.container x o ≡ place_seen k.container y o

module _ (s : Shape) (k : Listing) where
  -- what is seen of a tree is the same at two lists of enclosing instances
  abbrev pub IsAlike : List InstanceId → List InstanceId → Expr → Type 0
  IsAlike x y t = shade s k t x ≡ shade s k t y

  pub record IsRowAlike (x y : List InstanceId) (r : Row) : Type 0 where
    pub cond : IsAlike x y r.cond
    pub value : IsAlike x y r.value

  abbrev pub Agrees : List ℕ → List InstanceId → List InstanceId → Expr → Type 0
  Agrees hidden e f t = (x y : List InstanceId) → Follows k hidden e f x y → IsAlike x y t

  abbrev pub AgreeEach : List ℕ → List InstanceId → List InstanceId → List Expr → Type 0
  AgreeEach hidden e f ts = (x y : List InstanceId) → Follows k hidden e f x y → AllByRecursion (IsAlike x y) ts

  abbrev pub AgreeRows : List ℕ → List InstanceId → List InstanceId → List Row → Type 0
  AgreeRows hidden e f rs = (x y : List InstanceId) → Follows k hidden e f x y → AllByRecursion (IsRowAlike x y) rs

  -- a kept line is what is seen of its tree
  abbrev pub IsKept : SeenTree → Type 0
  IsKept x = StandsFor DAYS (shade s k x.tree.now x.enclosing) x.line

  abbrev pub AreKept : List SeenTree → Type 0
  AreKept xs = (i : ℕ) (x : SeenTree) → i < length xs → IsKept (get_or xs i x)

  -- wherever the kept lines were right, so is what is found, and the kept lines are still
  abbrev pub Keeps : List SeenTree → List SeenTree → Type 0 → Type 0
  Keeps old new P = AreKept old → P × AreKept new
