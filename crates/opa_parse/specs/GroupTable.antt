-- The grammar of groups as a table: what is read next, by the line that stands there.
use Rattle.std.specs.Prelude.{ℕ, ◌+◌, Bool, true, false, ◌==◌, nat_lt, List, [], ◌∷◌, Option, Some, None, if◌then◌else◌}
use Rattle.opa_sentence.specs.declared.names.Names.{Names}
use Rattle.opa_sentence.specs.declared.reading.Reading.{Reading}
use Rattle.opa_sentence.specs.Moves.{Move, fail, done, next, call}
use Rattle.opa_sentence.specs.Moves as moves
use Rattle.opa_parse.specs.declared.line.Ending.{Ending}
use Rattle.opa_parse.specs.declared.line.Ending.TheVariants as ending
use Rattle.opa_parse.specs.declared.line.Head.{Head}
use Rattle.opa_parse.specs.declared.line.Line.{Line}
use Rattle.opa_parse.specs.declared.group.Cases.{Cases}
use Rattle.opa_parse.specs.declared.group.Frame.{Frame}
use Rattle.opa_parse.specs.declared.group.Frame.TheVariants as frame
use Rattle.opa_parse.specs.declared.group.Front.{Front}
use Rattle.opa_parse.specs.declared.group.Front.TheVariants as front
use Rattle.opa_parse.specs.declared.group.Group.{Group}
use Rattle.opa_parse.specs.declared.group.Items.{Items}
use Rattle.opa_parse.specs.declared.group.Joint.{Joint}
use Rattle.opa_parse.specs.declared.group.Joint.TheVariants as joint
use Rattle.opa_parse.specs.declared.group.Said.{Said}
use Rattle.opa_parse.specs.declared.group.Sort.{Sort}
use Rattle.opa_parse.specs.declared.group.Sort.TheVariants as sort
use Rattle.opa_parse.specs.Groups.{is_deeper}
use Rattle.opa_parse.specs.Sayings.{of_line, headed, takes, one_item, with_item, single, several, no_cases, with_case, tabled}

abbrev pub Step : Type 0
Step = Move Sort Line Frame Group

-- no items yet, of a group at this level
abbrev pub items : ℕ → Front → Items
items k f = record { level = k; front = f }

-- ---- items

-- with an item that is the last
abbrev pub ended : Front → Said → Group
ended front.Nothing s = single s
ended (front.Joined j x) s = several j (with_item x s)

abbrev pub same : Joint → Joint → Bool
same joint.And joint.And = true
same joint.Or joint.Or = true
same i j = false

-- with an item that carries a connector
abbrev pub extended : Front → Said → Joint → Option Front
extended front.Nothing s j = Some (front.Joined j (one_item s))
extended (front.Joined i x) s j = if same i j then Some (front.Joined i (with_item x s)) else None

abbrev pub go_on : ℕ → Option Front → List Line → Step
go_on k None ls = fail
go_on k (Some f) ls = next (sort.Item (items k f)) ls

-- after an item, by the ending that stands there
abbrev pub after_line : Items → Said → Ending → List Line → Step
after_line i s ending.Nothing ls = done (ended i.front s) ls
after_line i s ending.And ls = go_on i.level (extended i.front s joint.And) ls
after_line i s ending.Or ls = go_on i.level (extended i.front s joint.Or) ls
after_line i s ending.If ls = fail
after_line i s ending.Otherwise ls = fail

abbrev pub line_item : Items → Line → Option Reading → List Line → Step
line_item i l None ls = fail
line_item i l (Some x) ls = after_line i (of_line l.number x) l.ending ls

abbrev pub head_item : Items → Line → Ending → Option Head → List Line → Step
head_item i l ending.Nothing (Some h) ls = call (sort.Item (items (i.level + 1) front.Nothing)) (frame.Head i l.number h) ls
head_item i l e h ls = fail

abbrev pub item : Items → List Line → Step
item i [] = fail
item i (l ∷ ls) = if l.level == i.level then (if is_deeper i.level ls then head_item i l l.ending l.head ls else line_item i l l.says ls) else fail

-- a connector alone
abbrev pub connector : Items → Said → Ending → List Line → Step
connector i s ending.And ls = go_on i.level (extended i.front s joint.And) ls
connector i s ending.Or ls = go_on i.level (extended i.front s joint.Or) ls
connector i s e ls = fail

abbrev pub after_group : Items → Said → List Line → Step
after_group i s [] = done (ended i.front s) []
after_group i s (l ∷ ls) = if nat_lt l.level i.level then done (ended i.front s) (l ∷ ls) else (if l.level == i.level then (if l.is_bare then connector i s l.ending ls else fail) else fail)

-- ---- cases

abbrev pub case_line : Cases → Line → Ending → Option Reading → List Line → Step
case_line cs l ending.If (Some x) ls = call (sort.Item (items 2 front.Nothing)) (frame.Case cs (of_line l.number x)) ls
case_line cs l e x ls = fail

abbrev pub first_case : List Line → Step
first_case [] = fail
first_case (l ∷ ls) = if l.level == 1 then case_line no_cases l l.ending l.says ls else fail

abbrev pub last_line : Cases → Line → Ending → Option Reading → List Line → Step
last_line cs l ending.Otherwise (Some x) ls = done (single (tabled cs (of_line l.number x))) ls
last_line cs l e x ls = case_line cs l e x ls

abbrev pub next_case : Cases → List Line → Step
next_case cs [] = fail
next_case cs (l ∷ ls) = if l.level == 1 then last_line cs l l.ending l.says ls else fail

-- ---- the table

abbrev pub production : Sort → List Line → Step
production (sort.Item i) ls = item i ls
production (sort.After i s) ls = after_group i s ls
production sort.FirstCase ls = first_case ls
production (sort.Case cs) ls = next_case cs ls
production sort.Wrong ls = fail

-- what is read next, once the group of a frame was read
abbrev pub resume : Names → Frame → Group → Sort
resume ns (frame.Head i number h) g = if takes h g.joint then sort.After i (headed ns number h g.said) else sort.Wrong
resume ns (frame.Case cs v) g = sort.Case (with_case cs v g.said)

-- the front of the lines is read as one of that sort, and the rest follows
abbrev pub Reads : Names → Sort → List Line → Group → List Line → Type 0
Reads ns = moves.Reads production (resume ns)

-- what is read at the front of lines as one of that sort, or none where no front is read
abbrev pub IsReadAs : Names → Sort → List Line → Option (Group × List Line) → Type 0
IsReadAs ns s ls None = (g : Group) (rest : List Line) → Reads ns s ls g rest → ⊥
IsReadAs ns s ls (Some x) = Reads ns s ls x.0 x.1
