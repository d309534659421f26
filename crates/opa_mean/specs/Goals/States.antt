-- The states of goals.
use Rattle.std.specs.Prelude.{◌≡◌, ◌↔◌, ℕ, ◌<◌, Bool, not, Option, Some, find, is_none, if◌then◌else◌}
use Rattle.std.specs.List.{list_all, AllByRecursion}
use Rattle.opa_date.specs.declared.TheConstants.{DAYS}
use Rattle.opa_value.specs.declared.value.Value.TheVariants.{Unknown}
use Rattle.opa_model.specs.declared.ids.AttrId.{AttrId}
use Rattle.opa_model.specs.Lookups.{goal_at}
use Rattle.opa_cells.specs.Instances.{global}
use Rattle.opa_case.specs.Cases.{CaseView}
use Rattle.opa_tree.specs.declared.rulebase.Rulebase.{Rulebase}
use Rattle.opa_mean.specs.Frees.{IsFree}
use Rattle.opa_mean.specs.Given.{base_of, facts_of}
use Rattle.opa_mean.specs.Next.{first_unknown, IsKnown}
use Rattle.opa_mean.specs.Rulebases.{IsCompletion, value_at}
use Rattle.opa_mean.specs.declared.goals.states.GoalState.{GoalState}
use Rattle.opa_mean.specs.declared.goals.states.GoalState.TheVariants.{Undecided, Decided, Settled}
use Rattle.opa_mean.specs.Goals.Freedom.{never_asks}

-- the goal is known at every day
abbrev pub is_known : Rulebase → CaseView → AttrId → Bool
is_known r c a = is_none (first_unknown DAYS (value_at r c a global))

abbrev pub state_by : Bool → Bool → GoalState
state_by known free = if known then (if free then Settled else Decided) else Undecided

-- Undecided where the goal is unknown on some day. Where it is known on every day: settled where nothing that it reaches asks
-- whether a value is known, else decided.
abbrev pub goal_state : Rulebase → CaseView → AttrId → GoalState
goal_state r c a = state_by (is_known r c a) (never_asks (base_of r) a)

-- every goal is known at every day
abbrev pub are_known : Rulebase → CaseView → Bool
are_known r c = list_all (is_known r c) r.model.goals

abbrev pub AreAllKnown : Rulebase → CaseView → Type 0
AreAllKnown r c = AllByRecursion (IsKnown (base_of r) (facts_of c)) r.model.goals

-- the goal is unknown on some day
abbrev pub IsOpen : Rulebase → CaseView → AttrId → Type 0
IsOpen r c a = (d : ℕ) × ((d < DAYS) × (value_at r c a global d ≡ Unknown))

-- what each state says
pub record IsStateOf (r : Rulebase) (c : CaseView) (a : AttrId) (s : GoalState) : Type 0 where
  pub undecided : (s ≡ Undecided) ↔ IsOpen r c a
  pub settled : (s ≡ Settled) ↔ (IsKnown (base_of r) (facts_of c) a × IsFree (base_of r) a)
  pub decided : (s ≡ Decided) ↔ (IsKnown (base_of r) (facts_of c) a × (IsFree (base_of r) a → ⊥))

-- what is settled has at every day the same value in every completion of the case
abbrev pub StaysSettled : Rulebase → CaseView → AttrId → GoalState → Type 0
StaysSettled r c a s = s ≡ Settled → (c' : CaseView) → IsCompletion r c c' → (d : ℕ) → d < DAYS → value_at r c' a global d ≡ value_at r c a global d

-- the state of the goal with the number
abbrev pub HasState : Rulebase → CaseView → ℕ → GoalState → Type 0
HasState r c n s = (a : AttrId) → goal_at r.model n ≡ Some a → s ≡ goal_state r c a

abbrev pub IsStateOfGoal : Rulebase → CaseView → ℕ → GoalState → Type 0
IsStateOfGoal r c n s = (a : AttrId) → goal_at r.model n ≡ Some a → IsStateOf r c a s

abbrev pub StaysSettledThere : Rulebase → CaseView → ℕ → GoalState → Type 0
StaysSettledThere r c n s = (a : AttrId) → goal_at r.model n ≡ Some a → StaysSettled r c a s

-- the first goal that is unknown on some day
abbrev pub open_goal : Rulebase → CaseView → Option AttrId
open_goal r c = find (λ a. not (is_known r c a)) r.model.goals
