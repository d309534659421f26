-- What the definitions of freedom and of states come to.
use Rattle.std.specs.Prelude.{◌≡◌, ◌↔◌, true}
use Rattle.opa_model.specs.declared.ids.AttrId.{AttrId}
use Rattle.opa_case.specs.Cases.{CaseView}
use Rattle.opa_tree.specs.declared.rulebase.Rulebase.{Rulebase}
use Rattle.opa_mean.specs.Frees.{IsFree}
use Rattle.opa_mean.specs.Given.{base_of}
use Rattle.opa_mean.specs.Goals.Freedom.{never_asks}
use Rattle.opa_mean.specs.Goals.States.{goal_state, IsStateOf}

-- An attribute never rests on whether something is known exactly where no rule that it reaches asks for it.
abbrev pub FreeIsFound : Type 0
FreeIsFound = (r : Rulebase) (a : AttrId) → (never_asks (base_of r) a ≡ true) ↔ IsFree (base_of r) a

-- Each state is what it says.
abbrev pub StatesAreExact : Type 0
StatesAreExact = (r : Rulebase) (c : CaseView) (a : AttrId) → IsStateOf r c a (goal_state r c a)
