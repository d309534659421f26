-- The laws of changes.
use Rattle.std.specs.Prelude.{◌≡◌, ◌<◌, ◌↔◌, ℕ, Ok, Some, None, Bool, true, false, List}
use Rattle.std.specs.List.{list_all, list_any}
use Rattle.std.specs.FinMap.{get}
use Rattle.opa_model.specs.declared.ids.AttrId.{AttrId}
use Rattle.opa_model.specs.declared.ids.RelId.{RelId}
use Rattle.opa_cells.specs.Instances.{named, is_text}
use Rattle.opa_cells.specs.declared.instance.InstanceId.{InstanceId}
use Rattle.opa_case.specs.declared.change.ChangeCommand.{ChangeCommand}
use Rattle.opa_case.specs.declared.change.ChangeCommand.TheVariants.{Answer as SetAnswer, Withdraw, SetList, Forget}
use Rattle.opa_model.specs.declared.lists.Lists.{Lists as Declared}
use Rattle.opa_model.specs.Models.{IsModel}
use Rattle.opa_case.specs.Shapes.{Shape, IsShape, shape_of}
use Rattle.opa_case.specs.Live.{Names, Lists, live_of, is_live, container_of}
use Rattle.opa_case.specs.Cases.{CaseView, no_case, Answer, list_of, IsLive}
use Rattle.opa_case.specs.Steps.{step, without_answer}
use Rattle.opa_case.specs.Clean.{IsClean, is_clean_command}
use Rattle.opa_case.specs.Fits.{Fits}
use Rattle.opa_case.specs.Whole.{IsWhole}

-- the attribute or relation of a command is declared
abbrev pub IsDeclared : Shape → ChangeCommand → Type 0
IsDeclared s (SetAnswer a i line) = a.0 < s.attributes
IsDeclared s (Withdraw a i) = a.0 < s.attributes
IsDeclared s (SetList r i names) = r.0 < s.relations
IsDeclared s (Forget r i) = r.0 < s.relations

-- The empty case fits each model.
abbrev pub EmptyFits : Type 0
EmptyFits = (m : Declared) (ruled : List Bool) → IsModel m → Fits (shape_of m) ruled no_case

-- What a model declares has the form that the other laws ask for.
abbrev pub ModelsAreShapes : Type 0
ModelsAreShapes = (m : Declared) → IsModel m → IsShape (shape_of m)

-- A change that isn't refused leaves a case that fits.
abbrev pub StepFits : Type 0
StepFits = (s : Shape) (ruled : List Bool) → IsShape s → (c c' : CaseView) (command : ChangeCommand) → IsDeclared s command → Fits s ruled c → step s ruled c command ≡ Ok c' → Fits s ruled c'

-- A change that isn't refused leaves a whole case whole.
abbrev pub StepIsWhole : Type 0
StepIsWhole = (s : Shape) (ruled : List Bool) → IsShape s → (c c' : CaseView) (command : ChangeCommand) → Fits s ruled c → IsWhole c → step s ruled c command ≡ Ok c' → IsWhole c'

-- A clean change leaves a clean case.
abbrev pub StepIsClean : Type 0
StepIsClean = (s : Shape) (ruled : List Bool) (c c' : CaseView) (command : ChangeCommand) → is_clean_command command ≡ true → IsClean c → step s ruled c command ≡ Ok c' → IsClean c'

-- An instance but the global one is live exactly where a live instance of its parent entity has a known list with its name.
pub record Stands (s : Shape) (l : Lists) (e : ℕ) (n : List ℕ) : Type 0 where
  pub container : InstanceId
  pub names : Names
  pub live : is_live (live_of s l) container ≡ true
  pub parent : container.entity.0 ≡ s.parent e
  pub known : l (s.contained e) container ≡ Some names
  pub listed : list_any (is_text n) names ≡ true

abbrev pub LiveByLists : Type 0
LiveByLists = (s : Shape) → IsShape s → (l : Lists) (e : ℕ) (n : List ℕ) → 0 < e → e < s.count → (is_live (live_of s l) (named e n) ≡ true) ↔ Stands s l e n

-- An answer that is set and then taken away leaves the case without that answer.
abbrev pub WithdrawUndoes : Type 0
WithdrawUndoes = (s : Shape) (ruled : List Bool) (c c' : CaseView) (a : AttrId) (i : InstanceId) (line : Answer) → step s ruled c (SetAnswer a i line) ≡ Ok c' → step s ruled c' (Withdraw a i) ≡ Ok (without_answer c a i)

-- All that is known afterwards was known before.
pub record OnlyLoses (c c' : CaseView) : Type 0 where
  pub lists : (r : RelId) (i : InstanceId) (names : Names) → list_of c' r i ≡ Some names → list_of c r i ≡ Some names
  pub answers : (a : AttrId) (i : InstanceId) (line : Answer) → get c'.answers (a.0, i) ≡ Some line → get c.answers (a.0, i) ≡ Some line
  pub live : (i d : InstanceId) → container_of c'.live i ≡ Some d → container_of c.live i ≡ Some d

-- Withdrawing and forgetting only lose.
abbrev pub WithdrawLoses : Type 0
WithdrawLoses = (s : Shape) (ruled : List Bool) (c c' : CaseView) (a : AttrId) (i : InstanceId) → step s ruled c (Withdraw a i) ≡ Ok c' → OnlyLoses c c'

abbrev pub ForgetLoses : Type 0
ForgetLoses = (s : Shape) (ruled : List Bool) → IsShape s → (c c' : CaseView) (r : RelId) (i : InstanceId) → Fits s ruled c → step s ruled c (Forget r i) ≡ Ok c' → OnlyLoses c c'

-- all names of a reference list are live
abbrev pub all_live_of : Shape → CaseView → RelId → Names → Bool
all_live_of s c r names = list_all (λ n. is_live c.live (named (s.target r) n)) names

-- What a list that is set leaves: c is the case before, and c' the one afterwards.
pub record Replaces (s : Shape) (c c' : CaseView) (r : RelId) (i : InstanceId) (names : Names) : Type 0 where
  pub set : get c'.lists (r.0, i) ≡ Some names
  -- What is live afterwards keeps its answers and, but for the list that is set, its containment lists.
  pub keeps_answers : (j : InstanceId) (a : AttrId) → IsLive c' j → get c'.answers (a.0, j) ≡ get c.answers (a.0, j)
  pub keeps_lists : (j : InstanceId) (q : RelId) → IsLive c' j → s.contains q ≡ true → ((q ≡ r) × (j ≡ i) → ⊥) → get c'.lists (q.0, j) ≡ get c.lists (q.0, j)
  -- A reference list is kept where all that it names are live, and else it is unknown.
  pub keeps_references : (j : InstanceId) (q : RelId) (ns : Names) → IsLive c' j → s.contains q ≡ false → ((q ≡ r) × (j ≡ i) → ⊥) → get c.lists (q.0, j) ≡ Some ns → all_live_of s c' q ns ≡ true → get c'.lists (q.0, j) ≡ Some ns
  pub loses_references : (j : InstanceId) (q : RelId) (ns : Names) → s.contains q ≡ false → ((q ≡ r) × (j ≡ i) → ⊥) → get c.lists (q.0, j) ≡ Some ns → all_live_of s c' q ns ≡ false → get c'.lists (q.0, j) ≡ None
  -- What isn't live has no answers and no lists.
  pub takes_answers : (j : InstanceId) (a : AttrId) → is_live c'.live j ≡ false → get c'.answers (a.0, j) ≡ None
  pub takes_lists : (j : InstanceId) (q : RelId) → is_live c'.live j ≡ false → get c'.lists (q.0, j) ≡ None
  -- What goes takes what it contains.
  pub takes_contained : (j d : InstanceId) → container_of c.live j ≡ Some d → is_live c'.live d ≡ false → is_live c'.live j ≡ false
  -- The names of a containment list are live in this container, and those that it no longer has go.
  pub contains : (n : List ℕ) → s.contains r ≡ true → list_any (is_text n) names ≡ true → container_of c'.live (named (s.target r) n) ≡ Some i
  pub goes : (n : List ℕ) → s.contains r ≡ true → container_of c.live (named (s.target r) n) ≡ Some i → list_any (is_text n) names ≡ false → is_live c'.live (named (s.target r) n) ≡ false
  -- What becomes live has nothing known.
  pub new_answers : (j : InstanceId) (a : AttrId) → is_live c.live j ≡ false → get c'.answers (a.0, j) ≡ None
  pub new_lists : (j : InstanceId) (q : RelId) → is_live c.live j ≡ false → get c'.lists (q.0, j) ≡ None

abbrev pub SetReplaces : Type 0
SetReplaces = (s : Shape) (ruled : List Bool) → IsShape s → (c c' : CaseView) (r : RelId) (i : InstanceId) (names : Names) → r.0 < s.relations → Fits s ruled c → step s ruled c (SetList r i names) ≡ Ok c' → Replaces s c c' r i names

-- What is forgotten takes what it contained.
pub record Takes (s : Shape) (c c' : CaseView) (r : RelId) (i : InstanceId) : Type 0 where
  -- The names of a containment list that is forgotten go.
  pub goes : (n : List ℕ) → s.contains r ≡ true → container_of c.live (named (s.target r) n) ≡ Some i → is_live c'.live (named (s.target r) n) ≡ false
  -- What goes takes what it contains.
  pub takes_contained : (j d : InstanceId) → container_of c.live j ≡ Some d → is_live c'.live d ≡ false → is_live c'.live j ≡ false
  -- What isn't live has no answers and no lists.
  pub takes_answers : (j : InstanceId) (a : AttrId) → is_live c'.live j ≡ false → get c'.answers (a.0, j) ≡ None
  pub takes_lists : (j : InstanceId) (q : RelId) → is_live c'.live j ≡ false → get c'.lists (q.0, j) ≡ None

abbrev pub ForgetTakes : Type 0
ForgetTakes = (s : Shape) (ruled : List Bool) → IsShape s → (c c' : CaseView) (r : RelId) (i : InstanceId) → Fits s ruled c → step s ruled c (Forget r i) ≡ Ok c' → Takes s c c' r i

-- each instance that is live in both cases stands in the same container
abbrev pub KeepContainers : CaseView → CaseView → Type 0
KeepContainers c c' = (i : InstanceId) → IsLive c i → IsLive c' i → container_of c'.live i ≡ container_of c.live i

-- No change that isn't refused moves an instance that stays.
abbrev pub StepKeepsContainers : Type 0
StepKeepsContainers = (s : Shape) (ruled : List Bool) → IsShape s → (c c' : CaseView) (command : ChangeCommand) → IsDeclared s command → Fits s ruled c → step s ruled c command ≡ Ok c' → KeepContainers c c'
