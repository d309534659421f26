-- A case that is filled with the lists of a file, one after another.
use Rattle.std.specs.Prelude.{◌≡◌, ◌<◌, ℕ, Bool, true, false, List, None, Ok}
use Rattle.std.specs.List.{AllByRecursion}
use Rattle.std.specs.FinMap.{FinMap, get, empty}
use Rattle.opa_model.specs.declared.ids.RelId.{RelId}
use Rattle.opa_model.specs.declared.lists.Lists.{Lists}
use Rattle.opa_model.specs.Lookups.{attribute_named}
use Rattle.opa_cells.specs.Keys.{cell_cmp}
use Rattle.opa_cells.specs.declared.instance.InstanceId.{InstanceId}
use Rattle.opa_case.specs.Shapes.{Shape}
use Rattle.opa_case.specs.Live.{Names, Population, live_of}
use Rattle.opa_case.specs.Cases.{CaseView, Answer, stored}
use Rattle.opa_case.specs.Steps.{list_fault, is_full, set_list}
use Rattle.opa_case.specs.Fits.{Known, Fits}
use Rattle.opa_saved.specs.declared.entries.AnswerEntry.{AnswerEntry}
use Rattle.opa_saved.specs.Loading.{case_with, living, answer_refusal}

-- No list is refused, nor all of them together.
pub record AreTaken (s : Shape) (ruled : List Bool) (all : FinMap cell_cmp Names) : Type 0 where
  pub declared : (r : RelId) (i : InstanceId) (names : Names) → Known all r i names → r.0 < s.relations
  pub taken : (r : RelId) (i : InstanceId) (names : Names) → Known all r i names → list_fault s (living (live_of s (stored all))) r i names ≡ None
  pub fine : is_full s ruled (live_of s (stored all)) ≡ false

-- The case knows some of the lists, and nothing else.
pub record HoldsSome (s : Shape) (ruled : List Bool) (all : FinMap cell_cmp Names) (c : CaseView) : Type 0 where
  pub is : c ≡ case_with s c.lists empty
  pub some : (r : RelId) (i : InstanceId) (names : Names) → Known c.lists r i names → Known all r i names
  pub fits : Fits s ruled c

-- it knows what there is at the key
abbrev pub Agrees : FinMap cell_cmp Names → CaseView → ℕ → InstanceId → Type 0
Agrees all c n i = get c.lists (n, i) ≡ get all (n, i)

-- it knows no lists but those that contain
abbrev pub OnlyContains : Shape → CaseView → Type 0
OnlyContains s c = (r : RelId) (i : InstanceId) (names : Names) → Known c.lists r i names → s.contains r ≡ true

-- it knows the lists that contain instances of the entities before this one
abbrev pub HasBefore : Shape → FinMap cell_cmp Names → CaseView → ℕ → Type 0
HasBefore s all c e = (d : ℕ) (i : InstanceId) → 0 < d → d < e → Agrees all c (s.contained d).0 i

-- what it knew it still knows
abbrev pub Keeps : FinMap cell_cmp Names → CaseView → CaseView → Type 0
Keeps all old new = (n : ℕ) (i : InstanceId) → Agrees all old n i → Agrees all new n i

-- the case with other answers
abbrev pub with_answers : CaseView → FinMap cell_cmp Answer → CaseView
with_answers c answers = record c { answers = answers }

-- no answer is refused where these are live
abbrev pub AreAnswerable : Lists → List Bool → Population → List AnswerEntry → Type 0
AreAnswerable m ruled live es = AllByRecursion (λ e. answer_refusal m ruled live (attribute_named m e.point.phrase) e ≡ None) es

-- the list can be set
abbrev pub TakesList : Shape → List Bool → CaseView → RelId → InstanceId → Names → Type 0
TakesList s ruled c r i names = (next : CaseView) × (set_list s ruled c r i names ≡ Ok next)
