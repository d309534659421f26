-- Goals, and the first day on which one is unknown.
use Rattle.std.specs.List.{AllByRecursion}
use Rattle.std.specs.Prelude.{◌≡◌, ◌≢◌, ℕ, ◌<◌, nat_le, cond, List, [], ◌∷◌, Option, None, Some}
use Rattle.opa_date.specs.declared.TheConstants.{DAYS}
use Rattle.opa_value.specs.declared.value.Value.{Value}
use Rattle.opa_value.specs.declared.value.Value.TheVariants.{Unknown}
use Rattle.opa_line.specs.Lines.{at}
use Rattle.opa_model.specs.declared.ids.AttrId.{AttrId}
use Rattle.opa_model.specs.Lookups.{goal_at}
use Rattle.opa_case.specs.Cases.{CaseView}
use Rattle.opa_case.specs.Shapes.{shape_of}
use Rattle.opa_case.specs.declared.question.Question.{Question}
use Rattle.opa_tree.specs.declared.rulebase.Rulebase.{Rulebase}
use Rattle.opa_mean.specs.Given.{base_of, facts_of}
use Rattle.opa_mean.specs.Next.{first_unknown, first_or, relevant, next, IsKnown}
use Rattle.opa_mean.specs.Places.{owner_of}

-- the attribute is one of the global instance
abbrev pub IsGlobal : Rulebase → AttrId → Type 0
IsGlobal r a = owner_of (shape_of r.model) a ≡ 0

-- the first day of change behind a day, or the calendar's end
abbrev pub next_change : ℕ → List (ℕ × Value) → ℕ
next_change d [] = DAYS
next_change d (p ∷ l) = cond (nat_le p.0 d) (next_change d l) p.0

-- on no day below
abbrev pub KnownBelow : List (ℕ × Value) → ℕ → Type 0
KnownBelow l d = (k : ℕ) → k < d → at l k ≢ Some Unknown

-- the first day on which the line is unknown, none where there is none
abbrev pub IsFirstOpen : List (ℕ × Value) → Option ℕ → Type 0
IsFirstOpen l None = KnownBelow l DAYS
IsFirstOpen l (Some d) = (d < DAYS) × (at l d ≡ Some Unknown) × KnownBelow l d

-- the first day on which the value is unknown, none where there is none
abbrev pub IsFirstUnknown : (ℕ → Value) → Option ℕ → Type 0
IsFirstUnknown f None = None ≡ first_unknown DAYS f
IsFirstUnknown f (Some d) = (Some d ≡ first_unknown DAYS f) × (d < DAYS) × (f d ≡ Unknown)

-- the first relevant question of the goal with a number; none where there is no such goal
abbrev pub asked_first : Rulebase → CaseView → Option AttrId → Option Question
asked_first r c None = None
asked_first r c (Some a) = first_or (relevant (base_of r) (facts_of c) a) None

abbrev pub IsAskedOf : Rulebase → CaseView → ℕ → Option Question → Type 0
IsAskedOf r c n q = q ≡ asked_first r c (goal_at r.model n)

-- the relevant questions of a goal, none where there is no such goal
abbrev pub relevant_or : Rulebase → CaseView → Option AttrId → List Question
relevant_or r c None = []
relevant_or r c (Some a) = relevant (base_of r) (facts_of c) a

-- of the goal with the number
abbrev pub relevant_to : Rulebase → CaseView → ℕ → List Question
relevant_to r c n = relevant_or r c (goal_at r.model n)

-- the question that is asked next
abbrev pub next_of : Rulebase → CaseView → Option Question
next_of r c = next (base_of r) (facts_of c) r.model.goals

-- every goal is known at every day
abbrev pub AreAllKnown : Rulebase → CaseView → Type 0
AreAllKnown r c = AllByRecursion (IsKnown (base_of r) (facts_of c)) r.model.goals
