-- Laws of commands.
use Rattle.std.specs.Prelude.{◌≡◌, ◌≢◌, ◌<◌, ℕ, List}
use Rattle.opa_date.specs.declared.TheConstants.{DAYS}
use Rattle.opa_line.specs.Lines.{IsLine}
use Rattle.opa_model.specs.declared.lists.Lists.{Lists}
use Rattle.opa_model.specs.Models.{IsModel, HasAttribute, HasRelation}
use Rattle.opa_case.specs.Laws.{IsDeclared}
use Rattle.opa_case.specs.Shapes.{shape_of}
use Rattle.opa_case.specs.declared.change.ChangeCommand.{ChangeCommand}
use Rattle.opa_case.specs.declared.change.ChangeCommand.TheVariants as change
use Rattle.opa_case.specs.declared.question.Question.{Question}
use Rattle.opa_text.specs.Points.{HasAsked}
use Rattle.opa_script.specs.declared.command.Command.{Command}
use Rattle.opa_script.specs.declared.command.Command.TheVariants as command
use Rattle.opa_script.specs.declared.fault.CmdFault.{CmdFault}
use Rattle.opa_script.specs.declared.fault.CmdFault.TheVariants as fault
use Rattle.opa_script.specs.Commands.{IsCommand, IsNoCommand}
use Rattle.opa_script.specs.Replies.{IsReply, IsNoReply}

-- what is answered is a line
abbrev pub HasLine : ChangeCommand → Type 0
HasLine (change.Answer a i l) = IsLine DAYS l
HasLine (change.Withdraw a i) = Unit {0}
HasLine (change.SetList r i ns) = Unit {0}
HasLine (change.Forget r i) = Unit {0}

abbrev pub IsWellFormed : Command → Type 0
IsWellFormed (command.Change x) = HasLine x
IsWellFormed c = Unit {0}

-- a line is at most one command
abbrev pub OneCommand : Type 0
OneCommand = (m : Lists) → IsModel m → (bytes : List ℕ) (c d : Command) → IsWellFormed c → IsWellFormed d → IsCommand m bytes c → IsCommand m bytes d → c ≡ d

-- a line that is a command has no fault
abbrev pub RefusedOrRead : Type 0
RefusedOrRead = (m : Lists) (bytes : List ℕ) (c : Command) (f : CmdFault) → IsCommand m bytes c → IsNoCommand m bytes f → f ≡ fault.NoMemory

-- what a command names is declared, and a day is of the calendar
abbrev pub IsInRange : Lists → Command → Type 0
IsInRange m (command.Change k) = IsDeclared (shape_of m) k
IsInRange m (command.ShowAttr a i) = HasAttribute m a
IsInRange m (command.ShowMembers r i) = HasRelation m r
IsInRange m (command.Report a i d) = HasAttribute m a × (d < DAYS)
IsInRange m c = Unit {0}

abbrev pub CommandsAreInRange : Type 0
CommandsAreInRange = (m : Lists) (bytes : List ℕ) (c : Command) → IsCommand m bytes c → IsInRange m c

-- ---- replies

-- a line is at most one reply to a question
abbrev pub OneReply : Type 0
OneReply = (m : Lists) → IsModel m → (q : Question) (bytes : List ℕ) (c d : Command) → IsWellFormed c → IsWellFormed d → IsReply m q bytes c → IsReply m q bytes d → c ≡ d

-- a line that is a reply has no fault
abbrev pub RefusedOrReplied : Type 0
RefusedOrReplied = (m : Lists) (q : Question) (bytes : List ℕ) (c : Command) (f : CmdFault) → IsReply m q bytes c → IsNoReply m q bytes f → f ≡ fault.NoMemory

-- what a reply to a declared question names is declared
abbrev pub RepliesAreInRange : Type 0
RepliesAreInRange = (m : Lists) (q : Question) (bytes : List ℕ) (c : Command) → HasAsked m q → IsReply m q bytes c → IsInRange m c
