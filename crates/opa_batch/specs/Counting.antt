-- How many lines of conclusions a batch may derive: for each record those that there are where nothing is known, and those that
-- its commands reach.
use Rattle.std.specs.Prelude.{◌≡◌, ◌≤◌, ◌⊎◌, ◌+◌, ℕ, zero, suc, List, [], ◌∷◌, length, Option, Ok}
use Rattle.std.specs.Io.KnownBytes.{Consumes, IsAtEnd}
use Rattle.opa_case.specs.Cases.{CaseView, no_case}
use Rattle.opa_case.specs.declared.change.ChangeCommand.{ChangeCommand}
use Rattle.opa_session.specs.Infer.Sessions.{reached, first_slots}
use Rattle.opa_talk.specs.WholeInput.Outside.{Outside}
use Rattle.opa_script.specs.declared.command.Command.{Command}
use Rattle.opa_script.specs.Commands.{IsCommand}
use Rattle.opa_script.specs.Laws.{IsWellFormed}
use Rattle.opa_parse.specs.Tables.Records.{table_records}
use Rattle.opa_tree.specs.declared.rulebase.Rulebase.{Rulebase}
use Rattle.opa_batch.specs.declared.head.Head.{Head}
use Rattle.opa_batch.specs.Heads.{AreHeads}
use Rattle.opa_batch.specs.Rows.{change_in, stepped, line_of, IsCell}
use Rattle.opa_batch.specs.Serving.{IsOpened}

-- Of no more lines than such a number steps were counted.
abbrev pub CountsAtMost : (ℕ → Type 0) → ℕ → ℕ → Type 0
CountsAtMost Reaches before now = (n : ℕ) × Reaches n × (now ≤ before + n)

-- No more than such a number.
abbrev pub IsAtMost : (ℕ → Type 0) → ℕ → Type 0
IsAtMost Reaches m = (n : ℕ) × Reaches n × (m ≤ n)

-- so many lines a change reaches that is made: none, where it is refused or isn't carried out
abbrev pub ChangeReaches : Rulebase → CaseView → Option ChangeCommand → ℕ → Type 0
ChangeReaches r c k n = (n ≡ 0) ⊎ ((d : CaseView) × (stepped r c k ≡ Ok d) × (n ≡ reached r c d))

abbrev pub LineReaches : Rulebase → CaseView → List ℕ → ℕ → Type 0
LineReaches r c line n = (n ≡ 0) ⊎ ((k : Command) × IsCommand r.model line k × IsWellFormed k × ChangeReaches r c (change_in k) n)

-- the line of a cell reaches so many; an empty cell reaches none
abbrev pub CellReaches : Rulebase → CaseView → Head → List ℕ → ℕ → Type 0
CellReaches r c h [] n = n ≡ 0
CellReaches r c h (b ∷ bytes) n = LineReaches r c (line_of h (b ∷ bytes)) n

-- So many lines the cells from a column on reach, from left to right, up to the last one that is carried out.
abbrev pub CellsReach : Rulebase → ℕ → CaseView → List Head → List (List ℕ) → ℕ → Type 0
CellsReach r column c [] cells n = n ≡ 0
CellsReach r column c (h ∷ heads) [] n = n ≡ 0
CellsReach r column c (h ∷ heads) (cell ∷ cells) n =
    CellReaches r c h cell n
    ⊎ ((m : ℕ) × (rest : ℕ) × (d : CaseView) × CellReaches r c h cell m × IsCell r column c h cell (Ok d) × CellsReach r (column + 1) d heads cells rest × (n ≡ m + rest))

-- so many lines the cells of a record reach: none, where it has another length
abbrev pub RecordReaches : Rulebase → List Head → List (List ℕ) → ℕ → Type 0
RecordReaches r heads cells n = (n ≡ 0) ⊎ ((length cells ≡ length heads) × CellsReach r 1 no_case heads cells n)

-- for each record the lines that there are where nothing is known, and those that its cells reach
abbrev pub RecordsReach : Rulebase → List Head → List (List (List ℕ)) → ℕ → Type 0
RecordsReach r heads [] n = n ≡ 0
RecordsReach r heads (cells ∷ records) n =
    (m : ℕ) × (rest : ℕ) × RecordReaches r heads cells m × RecordsReach r heads records rest × (n ≡ (first_slots r + m) + rest)

-- what is determined anew before the record at a place: for the first one nothing
abbrev pub due : Rulebase → ℕ → ℕ
due r zero = 0
due r (suc place) = first_slots r

-- of records, the first of which is the heading: nothing was counted, or no more than those below it reach
abbrev pub MayCount : Rulebase → List (List (List ℕ)) → ℕ → ℕ → Type 0
MayCount r [] before now = now ≡ before
MayCount r (first ∷ records) before now = (now ≡ before) ⊎ ((heads : List Head) × AreHeads r.model first heads × CountsAtMost (RecordsReach r heads records) before now)

-- nothing was counted, or the input was read to its end and no more was counted than its records reach
abbrev pub CountsOver : Rulebase → Option (List ℕ) → Option (List ℕ) → ℕ → ℕ → Type 0
CountsOver r left left' before now = (now ≡ before) ⊎ ((read : List ℕ) × Consumes left left' read × IsAtEnd left' × MayCount r (table_records read) before now)

-- With every status: nothing was counted, or a rulebase was opened, the input was read, and no more was counted than its records
-- reach.
abbrev pub Counts : List ℕ → Outside → Outside → ℕ → ℕ → Type 0
Counts name old new before now =
    (now ≡ before) ⊎ ((base : Rulebase) × IsOpened old.files name (Ok base) × CountsOver base old.left new.left before now)
