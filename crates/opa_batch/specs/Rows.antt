-- The row of a record: what the goals are where the record's cells alone are known, or the first fault of its cells.
use Rattle.std.specs.Prelude.{◌≡◌, ◌≢◌, ◌⊎◌, ◌+◌, ℕ, List, [], ◌∷◌, ◌++◌, length, map, codes, Option, None, Some, Result, Ok, Err}
use Rattle.std.specs.Fmt.{decimal}
use Rattle.opa_model.specs.declared.ids.AttrId.{AttrId}
use Rattle.opa_cells.specs.Instances.{global}
use Rattle.opa_case.specs.Cases.{CaseView, no_case}
use Rattle.opa_case.specs.Shapes.{shape_of}
use Rattle.opa_case.specs.Steps.{step}
use Rattle.opa_case.specs.Refusals.{number_of}
use Rattle.opa_case.specs.declared.change.ChangeCommand.{ChangeCommand}
use Rattle.opa_case.specs.declared.change.Refusal.{Refusal}
use Rattle.opa_tree.specs.declared.rulebase.Rulebase.{Rulebase}
use Rattle.opa_script.specs.declared.command.Command.{Command}
use Rattle.opa_script.specs.declared.command.Command.TheVariants as command
use Rattle.opa_script.specs.declared.fault.CmdFault.{CmdFault}
use Rattle.opa_script.specs.declared.fault.CmdFault.TheVariants as fault
use Rattle.opa_script.specs.Commands.{IsCommand, IsNoCommand}
use Rattle.opa_script.specs.Laws.{IsWellFormed}
use Rattle.opa_reply.specs.Reporting.Shown.{told_line}
use Rattle.opa_batch.specs.declared.head.Head.{Head}
use Rattle.opa_batch.specs.declared.head.Sort.{Sort}
use Rattle.opa_batch.specs.declared.head.Sort.TheVariants as sort
use Rattle.opa_batch.specs.Heads.{column_fault}

-- ---- a cell

-- the line that a cell under a head stands for
abbrev pub word_of : Sort → List ℕ
word_of sort.Answer = codes "answer "
word_of sort.Names = codes "list "

abbrev pub line_of : Head → List ℕ → List ℕ
line_of h cell = word_of h.sort ++ (h.text ++ (codes " = " ++ cell))

-- the change that a command is
abbrev pub change_in : Command → Option ChangeCommand
change_in (command.Change k) = Some k
change_in command.Nothing = None
change_in (command.ShowAttr a i) = None
change_in (command.ShowMembers n i) = None
change_in command.Goals = None
change_in command.Next = None
change_in command.Screen = None
change_in (command.Report a i d) = None
change_in (command.Save name) = None
change_in (command.Load name) = None
change_in command.Stats = None
change_in (command.Dismiss n) = None

-- what a command makes of a case: a change takes its step, and nothing else changes a case
abbrev pub stepped : Rulebase → CaseView → Option ChangeCommand → Result CaseView Refusal
stepped r c None = Ok c
stepped r c (Some k) = step (shape_of r.model) r.ruled c k

-- the number of a fault: want of memory, which is never printed, has none
abbrev pub fault_number : CmdFault → ℕ
fault_number fault.NotACommand = 1
fault_number fault.Name = 2
fault_number fault.Value = 3
fault_number fault.NoMemory = 0

abbrev pub command_fault : ℕ → CmdFault → List ℕ
command_fault column f = column_fault column (codes "command") (fault_number f)

abbrev pub change_fault : ℕ → Refusal → List ℕ
change_fault column e = column_fault column (codes "change") (number_of e)

-- the case, or the fault of the column
abbrev pub in_column : ℕ → Result CaseView Refusal → Result CaseView (List ℕ)
in_column column (Ok c) = Ok c
in_column column (Err e) = Err (change_fault column e)

-- a line is read and carried out: it leaves a case, or has a fault
abbrev pub IsCarriedOut : Rulebase → ℕ → CaseView → List ℕ → Result CaseView (List ℕ) → Type 0
IsCarriedOut r column c line x =
    ((f : CmdFault) × (f ≢ fault.NoMemory) × IsNoCommand r.model line f × (x ≡ Err (command_fault column f)))
    ⊎ ((k : Command) × IsCommand r.model line k × IsWellFormed k × (x ≡ in_column column (stepped r c (change_in k))))

-- what the cell of a column makes of a case: an empty one leaves it as it is
abbrev pub IsCell : Rulebase → ℕ → CaseView → Head → List ℕ → Result CaseView (List ℕ) → Type 0
IsCell r column c h [] x = x ≡ Ok c
IsCell r column c h (b ∷ bytes) x = IsCarriedOut r column c (line_of h (b ∷ bytes)) x

-- ---- a record

-- what the cells from a column on make of a case, from left to right; the first fault decides
abbrev pub AreCells : Rulebase → ℕ → CaseView → List Head → List (List ℕ) → Result CaseView (List ℕ) → Type 0
AreCells r column c [] cells x = x ≡ Ok c
AreCells r column c (h ∷ heads) [] x = x ≡ Ok c
AreCells r column c (h ∷ heads) (cell ∷ cells) x =
    ((text : List ℕ) × IsCell r column c h cell (Err text) × (x ≡ Err text))
    ⊎ ((d : CaseView) × IsCell r column c h cell (Ok d) × AreCells r (column + 1) d heads cells x)

abbrev pub length_fault : List ℕ
length_fault = codes "length"

-- the case that a record's cells make of the empty one, or its fault
abbrev pub IsRecord : Rulebase → List Head → List (List ℕ) → Result CaseView (List ℕ) → Type 0
IsRecord r heads cells x = ((length cells ≢ length heads) × (x ≡ Err length_fault)) ⊎ ((length cells ≡ length heads) × AreCells r 1 no_case heads cells x)

-- ---- a row

-- the values of a goal over all days
abbrev pub goal_cell : Rulebase → CaseView → AttrId → List ℕ
goal_cell r c a = told_line r c a global

abbrev pub empty_cell : AttrId → List ℕ
empty_cell a = []

-- a number, what the goals are, and a fault
abbrev pub row_of : Rulebase → ℕ → Result CaseView (List ℕ) → List (List ℕ)
row_of r n (Ok c) = decimal n ∷ (map (goal_cell r c) r.model.goals ++ [] ∷ [])
row_of r n (Err text) = decimal n ∷ (map empty_cell r.model.goals ++ text ∷ [])

-- The row of the record with this number: of its own cells and nothing else.
abbrev pub IsRow : Rulebase → List Head → ℕ → List (List ℕ) → List (List ℕ) → Type 0
IsRow r heads n cells row = (x : Result CaseView (List ℕ)) × IsRecord r heads cells x × (row ≡ row_of r n x)
