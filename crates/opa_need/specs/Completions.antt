-- What nothing outside the questions of a goal can decide.
use Rattle.std.specs.Prelude.{◌≡◌, ℕ, List, None, Some}
use Rattle.std.specs.List.{AllByRecursion}
use Rattle.opa_date.specs.declared.TheConstants.{DAYS}
use Rattle.opa_value.specs.declared.value.Value.TheVariants.{Unknown}
use Rattle.opa_model.specs.declared.ids.AttrId.{AttrId}
use Rattle.opa_model.specs.Lookups.{goal_at}
use Rattle.opa_cells.specs.Instances.{global}
use Rattle.opa_case.specs.Cases.{CaseView}
use Rattle.opa_case.specs.declared.question.Question.{Question}
use Rattle.opa_case.specs.declared.question.Question.TheVariants as question
use Rattle.opa_tree.specs.declared.rulebase.Rulebase.{Rulebase}
use Rattle.opa_mean.specs.Frees.{IsFree}
use Rattle.opa_mean.specs.Given.{base_of, facts_of}
use Rattle.opa_mean.specs.Mean.{Facts}
use Rattle.opa_mean.specs.Needs.{IsOpen, needs_of}
use Rattle.opa_mean.specs.Next.{first_unknown}
use Rattle.opa_mean.specs.Rulebases.{IsCompletion, value_at}

-- Nothing outside its needs at the first day on which a goal is unknown can decide it there: where the goal never rests on
-- whether something is known, it is unknown there in each completion in which these needs are all open.
abbrev pub OnlyNeedsDecide : Rulebase → CaseView → AttrId → Type 0
OnlyNeedsDecide r c a = IsFree (base_of r) a → (d : ℕ) → Some d ≡ first_unknown DAYS (value_at r c a global) → (c' : CaseView) → IsCompletion r c c'
    → AllByRecursion (IsOpen (facts_of c')) (needs_of (base_of r) (facts_of c) a global d) → value_at r c' a global d ≡ Unknown

-- the question has no answer on any day, or the list isn't known
abbrev pub IsLeftOpen : Facts → Question → Type 0
IsLeftOpen c (question.Attr a i) = (d : ℕ) → c.answer a i d ≡ Unknown
IsLeftOpen c (question.Members r i) = c.members r i ≡ None

-- Nothing but these questions can decide the goal: where it never rests on whether something is known, it is still unknown
-- on the first day on which it was in each completion that leaves all of these questions open.
abbrev pub OnlyTheseDecide : Rulebase → CaseView → AttrId → List Question → Type 0
OnlyTheseDecide r c a qs = IsFree (base_of r) a → (d : ℕ) → Some d ≡ first_unknown DAYS (value_at r c a global) → (c' : CaseView) → IsCompletion r c c'
    → AllByRecursion (IsLeftOpen (facts_of c')) qs → value_at r c' a global d ≡ Unknown

-- the same of the goal with the number, where there is one
abbrev pub OnlyNeedsDecideGoal : Rulebase → CaseView → ℕ → Type 0
OnlyNeedsDecideGoal r c n = (a : AttrId) → goal_at r.model n ≡ Some a → OnlyNeedsDecide r c a

abbrev pub OnlyTheseDecideGoal : Rulebase → CaseView → ℕ → List Question → Type 0
OnlyTheseDecideGoal r c n qs = (a : AttrId) → goal_at r.model n ≡ Some a → OnlyTheseDecide r c a qs
