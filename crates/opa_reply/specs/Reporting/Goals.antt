-- What is told of goals.
use Rattle.std.specs.Prelude.{◌≡◌, ℕ, List, [], ◌∷◌, ◌++◌, codes, flat_map, Some}
use Rattle.opa_model.specs.declared.ids.AttrId.{AttrId}
use Rattle.opa_model.specs.Lookups.{goal_at}
use Rattle.opa_cells.specs.Instances.{global}
use Rattle.opa_case.specs.Cases.{CaseView}
use Rattle.opa_case.specs.Shapes.{attribute_or}
use Rattle.opa_tree.specs.declared.rulebase.Rulebase.{Rulebase}
use Rattle.opa_mean.specs.declared.goals.states.GoalState.{GoalState}
use Rattle.opa_mean.specs.declared.goals.states.GoalState.TheVariants as state
use Rattle.opa_mean.specs.Goals.States.{goal_state}
use Rattle.opa_reply.specs.Reporting.Shown.{told_line}

abbrev pub state_text : GoalState → List ℕ
state_text state.Undecided = codes "undecided"
state_text state.Decided = codes "decided"
state_text state.Settled = codes "settled"

-- `PHRASE: LINE (STATE)`
abbrev pub state_line : List ℕ → List ℕ → GoalState → List ℕ
state_line phrase what s = phrase ++ (codes ": " ++ (what ++ (codes " (" ++ (state_text s ++ (codes ")" ++ 10 ∷ [])))))

abbrev pub goal_line : Rulebase → CaseView → AttrId → List ℕ
goal_line r c a = state_line (attribute_or r.model a).phrase (told_line r c a global) (goal_state r c a)

-- a line for each goal, in their order
abbrev pub goals_told : Rulebase → CaseView → List ℕ
goals_told r c = flat_map (goal_line r c) r.model.goals

-- the line of the goal with the number
abbrev pub IsGoalLine : Rulebase → CaseView → ℕ → List ℕ → Type 0
IsGoalLine r c n text = (a : AttrId) → goal_at r.model n ≡ Some a → text ≡ goal_line r c a
