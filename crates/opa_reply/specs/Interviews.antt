-- An interview: before each line stands what is asked, a line replies to it or is a command behind a slash, and no line is taken
-- any more once every goal is known at every day.
use Rattle.std.specs.Prelude.{◌≡◌, ◌⊎◌, ℕ, Bool, true, false, ◌&&◌, not, nat_lt, List, length, Option, None, Some}
use Rattle.opa_talk.specs.Transcript.{Rule}
use Rattle.opa_model.specs.declared.lists.Lists.{Lists}
use Rattle.opa_case.specs.declared.question.Question.{Question}
use Rattle.opa_script.specs.declared.command.Command.{Command}
use Rattle.opa_script.specs.declared.command.Command.TheVariants as command
use Rattle.opa_script.specs.declared.fault.CmdFault.{CmdFault}
use Rattle.opa_script.specs.declared.fault.CmdFault.TheVariants as fault
use Rattle.opa_script.specs.Laws.{IsWellFormed}
use Rattle.opa_script.specs.Lines.{is_idle}
use Rattle.opa_script.specs.Replies.{slashed, IsReply, IsNoReply}
use Rattle.opa_need.specs.Goals.{next_of}
use Rattle.opa_reply.specs.Reporting.Asking.{prompt_told, is_over}
use Rattle.opa_reply.specs.Held.{Held}
use Rattle.opa_reply.specs.Lines.{LONGEST, bytes_of, text_of}
use Rattle.opa_reply.specs.Replies.{Answers, LacksAt, StopsAt}

-- a text that is blank or a comment, also behind a slash
abbrev pub idle_behind : Option (List ℕ) → List ℕ → Bool
idle_behind None text = is_idle text
idle_behind (Some rest) text = is_idle rest

abbrev pub is_idle_reply : List ℕ → Bool
is_idle_reply text = idle_behind (slashed text) text

-- It is neither blank nor a comment, also behind a slash, and has more bytes than a line may have.
abbrev pub is_long_reply : List ℕ → Bool
is_long_reply line = nat_lt LONGEST (length (bytes_of line)) && not (is_idle_reply (text_of line))

-- the reply to a question that was asked; where nothing is asked, each line does nothing
abbrev pub RepliesTo : Lists → Option Question → List ℕ → Command → Type 0
RepliesTo m None text c = c ≡ command.Nothing
RepliesTo m (Some q) text c = IsReply m q text c

abbrev pub RepliesNotTo : Lists → Option Question → List ℕ → CmdFault → Type 0
RepliesNotTo m None text f = ⊥
RepliesNotTo m (Some q) text f = IsNoReply m q text f

-- the line isn't too long, and its text says this in reply to what was asked
abbrev pub IsTold : Lists → Option Question → List ℕ → Command → Type 0
IsTold m asked line c = (is_long_reply line ≡ false) × RepliesTo m asked (text_of line) c × IsWellFormed c

-- The line says nothing, for this reason: it is too long, or its text is no reply.
abbrev pub IsNotTold : Lists → Option Question → List ℕ → CmdFault → Type 0
IsNotTold m asked line f = ((is_long_reply line ≡ true) × (f ≡ fault.NotACommand)) ⊎ ((is_long_reply line ≡ false) × RepliesNotTo m asked (text_of line) f)

-- in reply to what is asked next
abbrev pub Tells : Held → List ℕ → Command → Type 0
Tells x line c = IsTold x.rules.model (next_of x.rules x.case) line c

abbrev pub TellsNothing : Held → List ℕ → CmdFault → Type 0
TellsNothing x line f = IsNotTold x.rules.model (next_of x.rules x.case) line f

-- A line that says nothing is refused, and another is carried out.
abbrev pub RepliesAsked : Held → List ℕ → List ℕ → Held → Type 0
RepliesAsked = Answers Tells TellsNothing

-- what a line that saves the case leaves where keeping the file failed
abbrev pub StopsAsked : Held → List ℕ → Held → Type 0
StopsAsked = StopsAt Tells

-- what a line leaves for want of memory
abbrev pub LacksAsked : Held → List ℕ → Held → Type 0
LacksAsked = LacksAt Tells

-- The rule of an interview.
abbrev pub interview : Rule Held
interview = record { prompt = λ x. prompt_told x.rules x.case; is_over = λ x. is_over x.rules x.case; Replies = RepliesAsked }
