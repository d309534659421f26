-- Quantifiers whose questions at a day are found.
use Rattle.std.specs.Prelude.{ℕ, ◌<◌, List, ◌∷◌, length, reverse, Bool, if◌then◌else◌}
use Rattle.std.proofs.Math.ListN.{get_or}
use Rattle.std.specs.FinMap.{FinMap}
use Rattle.opa_cells.specs.Keys.{cell_cmp}
use Rattle.opa_case.specs.Cases.{CaseView}
use Rattle.opa_case.specs.declared.question.Question.{Question}
use Rattle.opa_tree.specs.declared.rulebase.Rulebase.{Rulebase}
use Rattle.opa_need.specs.Finding.{AreFound}
use Rattle.opa_need.specs.Steps.{IsOnTheWay, tree_needs}
use Rattle.opa_need.specs.declared.runs.Run.{Run}
use Rattle.opa_need.specs.declared.steps.Step.{Step}
use Rattle.opa_need.specs.declared.noted.NotedTree.{NotedTree}

module _ (r : Rulebase) (c : CaseView) where
  -- what it asks for there at the day is found
  abbrev pub IsNoted : List Question → NotedTree → Type 0
  IsNoted found one = AreFound found (tree_needs r c one.tree.now one.enclosing one.day)

  abbrev pub AreNoted : List Question → List NotedTree → Type 0
  AreNoted found trees = (k : ℕ) (x : NotedTree) → k < length trees → IsNoted found (get_or trees k x)

  -- all questions together are kept, and what is noted is right
  pub record IsRight (total found : List Question) (runs : FinMap cell_cmp (List Run)) (trees : List NotedTree) (steps : List Step) : Type 0 where
    pub way : IsOnTheWay r c total found runs steps
    pub noted : AreNoted found trees

  -- what a step leaves keeps them so
  abbrev pub GoesOn : Step → List Question → FinMap cell_cmp (List Run) → List NotedTree → List Step → List Question → FinMap cell_cmp (List Run) → List NotedTree → List Step → Type 0
  GoesOn s found runs trees steps found' runs' trees' steps' = (total : List Question) → IsRight total found runs trees (s ∷ reverse steps) → IsRight total found' runs' trees' (reverse steps')

  -- A step is passed over, or it is still to be taken, before these others.
  abbrev pub Begins : Step → List NotedTree → List Step → List Step → Bool → Type 0
  Begins s trees steps steps' passed = (total found : List Question) (runs : FinMap cell_cmp (List Run)) → IsRight total found runs trees (s ∷ reverse steps) → IsOnTheWay r c total found runs (if passed then reverse steps' else s ∷ reverse steps')

  -- a step is passed over, or gives way to others
  abbrev pub Passes : Step → List NotedTree → List Step → List Step → Type 0
  Passes s trees steps steps' = (total found : List Question) (runs : FinMap cell_cmp (List Run)) → IsRight total found runs trees (s ∷ reverse steps) → IsOnTheWay r c total found runs (reverse steps')
