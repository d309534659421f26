-- Quantifiers, and the day below which all that they need is found.
use Rattle.std.specs.Prelude.{◌≡◌, ℕ, ◌<◌, List, [], length}
use Rattle.std.proofs.Math.ListN.{get_or}
use Rattle.std.specs.FinMap.{FinMap}
use Rattle.opa_cells.specs.Keys.{cell_cmp}
use Rattle.opa_cells.specs.declared.instance.InstanceId.{InstanceId}
use Rattle.opa_case.specs.Cases.{CaseView}
use Rattle.opa_case.specs.declared.question.Question.{Question}
use Rattle.opa_tree.specs.declared.expr.Expr.{Expr}
use Rattle.opa_tree.specs.declared.rulebase.Rulebase.{Rulebase}
use Rattle.opa_need.specs.Alike.{Agrees}
use Rattle.opa_need.specs.Steps.{Settles, tree_needs}
use Rattle.opa_need.specs.declared.runs.Run.{Run}
use Rattle.opa_need.specs.declared.lasting.LastingTree.{LastingTree}

module _ (r : Rulebase) (c : CaseView) where
  -- what it needs there is found below that day, if it is at its first day
  abbrev pub IsLasting : List Question → FinMap cell_cmp (List Run) → LastingTree → Type 0
  IsLasting found runs one = Settles r c found runs (tree_needs r c one.tree.now one.enclosing) one.day one.until

  abbrev pub AreLasting : List Question → FinMap cell_cmp (List Run) → List LastingTree → Type 0
  AreLasting found runs trees = (k : ℕ) (x : LastingTree) → k < length trees → IsLasting found runs (get_or trees k x)

  -- the day that was noted, where the tree needs the same at other enclosing instances
  abbrev pub IsUntilAt : LastingTree → Expr → List InstanceId → ℕ → Type 0
  IsUntilAt one t enclosing until = (one.until ≡ until) × Agrees r c [] one.enclosing enclosing t
