-- What a line prints, and what is held after it.
use Rattle.std.specs.Prelude.{◌≡◌, ◌≢◌, ◌⊎◌, ◌≤◌, ◌+◌, ℕ, true, false, List, [], ◌∷◌, ◌++◌, codes, map, Option, None, Some, Result, Ok, Err, MatchResult}
use Rattle.std.specs.FinMap as files
use Rattle.opa_io.specs.Outside.{Files, Rose, SameBut}
use Rattle.opa_talk.specs.Transcript.{Rule}
use Rattle.opa_case.specs.Cases.{CaseView}
use Rattle.opa_case.specs.Shapes.{shape_of}
use Rattle.opa_case.specs.Steps.{step}
use Rattle.opa_case.specs.declared.change.ChangeCommand.{ChangeCommand}
use Rattle.opa_listen.specs.declared.change.Change.{Change}
use Rattle.opa_model.specs.declared.lists.Lists.{Lists}
use Rattle.opa_listen.specs.Hearing.{hearing}
use Rattle.opa_session.specs.Infer.Sessions.{reached, AreChanges}
use Rattle.opa_script.specs.declared.command.Command.{Command}
use Rattle.opa_script.specs.declared.command.Command.TheVariants as command
use Rattle.opa_script.specs.declared.fault.CmdFault.{CmdFault}
use Rattle.opa_script.specs.declared.fault.CmdFault.TheVariants as fault
use Rattle.opa_script.specs.Commands.{IsCommand, IsNoCommand}
use Rattle.opa_script.specs.Laws.{IsWellFormed}
use Rattle.opa_saved.specs.Saved.{saved_text}
use Rattle.opa_reply.specs.Reporting.Asking.{next_told, screen_told}
use Rattle.opa_reply.specs.Reporting.Goals.{goals_told}
use Rattle.opa_reply.specs.Reporting.Reports.{IsReportTold}
use Rattle.opa_reply.specs.Reporting.Shown.{value_told, names_told}
use Rattle.opa_reply.specs.Reporting.Stats.{stats_told}
use Rattle.opa_tree.specs.declared.rulebase.Rulebase.{Rulebase}
use Rattle.opa_reply.specs.Lines.{text_of, is_too_long}
use Rattle.opa_reply.specs.Held.{Held, held, with_hearers, with_files, with_derived}
use Rattle.opa_reply.specs.Dismissals.{IsDismissed}
use Rattle.opa_reply.specs.Refused.{refused_command, refused_change}
use Rattle.opa_reply.specs.Loads.{Loads}

-- Another case comes in: its number of slots that the change reaches is held with it, so many lines were derived, and each
-- listener keeps those of the changes that it watches, in order.
pub record Comes (x : Held) (c : CaseView) (y : Held) : Type 0 where
  pub told : List Change
  pub changes : AreChanges x.rules x.case c told
  pub after : y ≡ held x.rules c (reached x.rules x.case c) (map (hearing told) x.hearers) x.files (x.derived + reached x.rules x.case c)

-- A change is made whole and prints nothing, or is refused.
abbrev pub Changes : Held → ChangeCommand → List ℕ → Held → Type 0
Changes x k text y =
    MatchResult (step (shape_of x.rules.model) x.rules.ruled x.case k) (λ c. (text ≡ []) × Comes x c y) (λ e. (text ≡ refused_change e) × (y ≡ x))

-- the name has these bytes, and the other files are as they were, where they are told
abbrev pub HasKept : List ℕ → List ℕ → Option Files → Option Files → Type 0
HasKept name bytes None new = Unit {0}
HasKept name bytes (Some old) new = new ≡ Some (files.insert old name bytes)

-- the case's saved text stands under the name, and all else is held as it was
pub record Saves (x : Held) (name text : List ℕ) (y : Held) : Type 0 where
  pub says : text ≡ codes "saved" ++ 10 ∷ []
  pub others : y ≡ with_files x y.files
  pub kept : HasKept name (saved_text x.rules.model x.case) x.files y.files

-- a case that was loaded comes in; where none was, all is held as it was
abbrev pub Settles : Held → Option CaseView → Held → Type 0
Settles x None y = y ≡ x
Settles x (Some c) y = Comes x c y

-- the file of the name is loaded, or refused
pub record LoadsFile (x : Held) (name text : List ℕ) (y : Held) : Type 0 where
  pub case : Option CaseView
  pub loads : Loads x.rules x.files name text case
  pub settles : Settles x case y

-- a listener is dismissed, and all else is held as it was
pub record Dismisses (x : Held) (n : ℕ) (text : List ℕ) (y : Held) : Type 0 where
  pub dismissed : IsDismissed x.hearers n text y.hearers
  pub others : y ≡ with_hearers x y.hearers

-- what a command prints and leaves
abbrev pub CarriesOut : Command → Held → List ℕ → Held → Type 0
CarriesOut command.Nothing x text y = (text ≡ []) × (y ≡ x)
CarriesOut (command.Change k) x text y = Changes x k text y
CarriesOut (command.ShowAttr a i) x text y = (text ≡ value_told x.rules x.case a i) × (y ≡ x)
CarriesOut (command.ShowMembers r i) x text y = (text ≡ names_told x.rules x.case r i) × (y ≡ x)
CarriesOut (command.Save name) x text y = Saves x name text y
CarriesOut (command.Load name) x text y = LoadsFile x name text y
CarriesOut command.Goals x text y = (text ≡ goals_told x.rules x.case) × (y ≡ x)
CarriesOut command.Next x text y = (text ≡ next_told x.rules x.case) × (y ≡ x)
CarriesOut command.Screen x text y = (text ≡ screen_told x.rules x.case) × (y ≡ x)
CarriesOut (command.Report a i d) x text y = IsReportTold x.rules x.case a i d text × (y ≡ x)
CarriesOut command.Stats x text y = (text ≡ stats_told x.rules x.case x.reached) × (y ≡ x)
CarriesOut (command.Dismiss n) x text y = Dismisses x n text y

-- the line isn't too long, and its text is this command
abbrev pub IsAsked : Lists → List ℕ → Command → Type 0
IsAsked m line c = (is_too_long line ≡ false) × IsCommand m (text_of line) c × IsWellFormed c

-- The line is no command, for this reason: it is too long, or its text is none.
abbrev pub IsNotAsked : Lists → List ℕ → CmdFault → Type 0
IsNotAsked m line f = ((is_too_long line ≡ true) × (f ≡ fault.NotACommand)) ⊎ ((is_too_long line ≡ false) × IsNoCommand m (text_of line) f)

-- of what is declared in the rulebase that is held
abbrev pub Asks : Held → List ℕ → Command → Type 0
Asks x line c = IsAsked x.rules.model line c

abbrev pub AsksNothing : Held → List ℕ → CmdFault → Type 0
AsksNothing x line f = IsNotAsked x.rules.model line f

-- for what a line says, and why it says nothing: one that says nothing is refused, and another is carried out
abbrev pub Answers : (Held → List ℕ → Command → Type 0) → (Held → List ℕ → CmdFault → Type 0) → Held → List ℕ → List ℕ → Held → Type 0
Answers Says SaysNothing x line text y =
    ((f : CmdFault) × (f ≢ fault.NoMemory) × SaysNothing x line f × (text ≡ refused_command f) × (y ≡ x))
    ⊎ ((c : Command) × Says x line c × CarriesOut c x text y)

-- A line that is no command is refused, and another is carried out.
abbrev pub Replies : Held → List ℕ → List ℕ → Held → Type 0
Replies = Answers Asks AsksNothing

-- the files but the one of this name are as they were, where they are told
abbrev pub OthersStay : List ℕ → Option Files → Option Files → Type 0
OthersStay name None new = Unit {0}
OthersStay name (Some old) None = ⊥
OthersStay name (Some old) (Some new) = SameBut name old new

-- Where the case couldn't be kept under a name, all else is held as it was.
abbrev pub FailsToKeep : List ℕ → Held → Held → Type 0
FailsToKeep name x y = (y ≡ with_files x y.files) × OthersStay name x.files y.files

-- what a line that saves the case leaves where keeping the file failed
abbrev pub StopsAt : (Held → List ℕ → Command → Type 0) → Held → List ℕ → Held → Type 0
StopsAt Says x line y = (name : List ℕ) × Says x line (command.Save name) × FailsToKeep name x y

abbrev pub Stops : Held → List ℕ → Held → Type 0
Stops = StopsAt Asks

-- a command would bring this case in: a change that is accepted, or a file that is loaded
abbrev pub Brings : Held → Command → CaseView → Type 0
Brings x command.Nothing c = ⊥
Brings x (command.Change k) c = step (shape_of x.rules.model) x.rules.ruled x.case k ≡ Ok c
Brings x (command.ShowAttr a i) c = ⊥
Brings x (command.ShowMembers r i) c = ⊥
Brings x (command.Save name) c = ⊥
Brings x (command.Load name) c = (text : List ℕ) × Loads x.rules x.files name text (Some c)
Brings x command.Goals c = ⊥
Brings x command.Next c = ⊥
Brings x command.Screen c = ⊥
Brings x (command.Report a i d) c = ⊥
Brings x command.Stats c = ⊥
Brings x (command.Dismiss n) c = ⊥

-- Memory ran out while a case was to come in: no more lines were derived than it reaches, and all else is held as it was.
pub record RunsShort (k : Command) (x y : Held) : Type 0 where
  pub case : CaseView
  pub brings : Brings x k case
  pub few : y.derived ≤ x.derived + reached x.rules x.case case
  pub others : y ≡ with_derived x y.derived

-- there is a case, and no more lines were derived than it reaches
abbrev pub ReachesAll : Rulebase → CaseView → ℕ → ℕ → Option CaseView → Type 0
ReachesAll r c before now None = ⊥
ReachesAll r c before now (Some next) = now ≤ before + reached r c next

-- what a line leaves for want of memory
abbrev pub LacksAt : (Held → List ℕ → Command → Type 0) → Held → List ℕ → Held → Type 0
LacksAt Says x line y = (c : Command) × Says x line c × RunsShort c x y

abbrev pub Lacks : Held → List ℕ → Held → Type 0
Lacks = LacksAt Asks

-- Where a command halts, all is held as it was; but where keeping a file failed, for its name, and where memory ran out, for the
-- lines that were derived.
abbrev pub HaltsAt : ℕ → ℕ → Command → Held → Held → Type 0
HaltsAt keep keep' c x y = (y ≡ x) ⊎ ((Rose keep keep' × ((name : List ℕ) × (c ≡ command.Save name) × FailsToKeep name x y)) ⊎ RunsShort c x y)

-- what a line that was read prints and leaves: it is refused, or carried out
abbrev pub Responds : Result Command CmdFault → Held → List ℕ → Held → Type 0
Responds (Ok c) x text y = CarriesOut c x text y
Responds (Err f) x text y = (f ≢ fault.NoMemory) × (text ≡ refused_command f) × (y ≡ x)

abbrev pub HaltsFrom : ℕ → ℕ → Result Command CmdFault → Held → Held → Type 0
HaltsFrom keep keep' (Ok c) x y = HaltsAt keep keep' c x y
HaltsFrom keep keep' (Err f) x y = y ≡ x

-- a line was read so
abbrev pub IsReadAs : (Held → List ℕ → Command → Type 0) → (Held → List ℕ → CmdFault → Type 0) → Held → List ℕ → Result Command CmdFault → Type 0
IsReadAs Says SaysNothing x line (Ok c) = Says x line c
IsReadAs Says SaysNothing x line (Err f) = f ≢ fault.NoMemory → SaysNothing x line f

-- The rule of a conversation: there are no prompts, and it is never over.
abbrev pub conversation : Rule Held
conversation = record { prompt = λ x. []; is_over = λ x. false; Replies = Replies }
