-- When a tree is worth and needs the same at two lists of enclosing instances.
use Rattle.std.specs.Prelude.{◌≡◌, ◌⊎◌, ◌++◌, ◌∷◌, ℕ, List, [], Contains}
use Rattle.std.specs.List.{AllByRecursion}
use Rattle.opa_value.specs.declared.value.Value.{Value}
use Rattle.opa_model.specs.declared.ids.RelId.{RelId}
use Rattle.opa_cells.specs.declared.instance.InstanceId.{InstanceId}
use Rattle.opa_case.specs.Cases.{CaseView}
use Rattle.opa_case.specs.Live.{container_of}
use Rattle.opa_case.specs.Shapes.{shape_of}
use Rattle.opa_tree.specs.declared.expr.Expr.{Expr}
use Rattle.opa_tree.specs.declared.expr.Row.{Row}
use Rattle.opa_tree.specs.declared.rulebase.Rulebase.{Rulebase}
use Rattle.opa_mean.specs.Gathering as gathering
use Rattle.opa_mean.specs.Places.{place}
use Rattle.opa_mean.specs.Uses.{Use}
use Rattle.opa_need.specs.Steps.{part_value, tree_needs}

-- what a tree is worth, and what it needs
abbrev pub Seen : Type 0
Seen = Value × List Use

module _ (r : Rulebase) (c : CaseView) where
  abbrev pub HasSame : List InstanceId → List InstanceId → ℕ → Type 0
  HasSame here there o = place (container_of c.live) here o ≡ place (container_of c.live) there o

  -- an entity is listed within, or has one place at two lists of enclosing instances
  abbrev pub HasOnePlace : List ℕ → List InstanceId → List InstanceId → ℕ → Type 0
  HasOnePlace hidden here there o = Contains hidden o ⊎ HasSame here there o

  -- at two further lists each such entity has one place
  abbrev pub Follows : List ℕ → List InstanceId → List InstanceId → List InstanceId → List InstanceId → Type 0
  Follows = gathering.Follows (container_of c.live)

  abbrev pub seen : Expr → List InstanceId → ℕ → Seen
  seen t enclosing d = (part_value r c t enclosing d, tree_needs r c t enclosing d)

  -- on each day the same is seen of a tree
  abbrev pub IsAlike : List InstanceId → List InstanceId → Expr → Type 0
  IsAlike x y t = seen t x ≡ seen t y

  pub record IsRowAlike (x y : List InstanceId) (row : Row) : Type 0 where
    pub cond : IsAlike x y row.cond
    pub value : IsAlike x y row.value

  -- Each entity that a tree mentions is listed within or has one place at both: at any further two it is seen alike.
  abbrev pub Agrees : List ℕ → List InstanceId → List InstanceId → Expr → Type 0
  Agrees hidden here there t = (x y : List InstanceId) → Follows hidden here there x y → IsAlike x y t

  abbrev pub AgreeEach : List ℕ → List InstanceId → List InstanceId → List Expr → Type 0
  AgreeEach hidden here there ts = (x y : List InstanceId) → Follows hidden here there x y → AllByRecursion (IsAlike x y) ts

  -- a quantifier: the source of its relation, and the operands, within which the members are listed
  pub record AgreeOver (hidden : List ℕ) (here there : List InstanceId) (rel : RelId) (ts : List Expr) : Type 0 where
    pub source : HasOnePlace hidden here there ((shape_of r.model).source rel)
    pub operands : AgreeEach (hidden ++ (shape_of r.model).target rel ∷ []) here there ts

  abbrev pub AgreeRow : List ℕ → List InstanceId → List InstanceId → Row → Type 0
  AgreeRow hidden here there row = (x y : List InstanceId) → Follows hidden here there x y → IsRowAlike x y row

  abbrev pub AgreeRows : List ℕ → List InstanceId → List InstanceId → List Row → Type 0
  AgreeRows hidden here there rows = (x y : List InstanceId) → Follows hidden here there x y → AllByRecursion (IsRowAlike x y) rows
