-- What is decided: a line's fault, what a file loads, a line's reply, and the transcript of lines, in a run and in an interview.
use Rattle.std.specs.Prelude.{◌≡◌, ◌≢◌, ℕ, List, Some, Option}
use Rattle.opa_io.specs.Outside.{Files}
use Rattle.opa_talk.specs.Transcript.{Rule, IsTranscript}
use Rattle.opa_model.specs.declared.lists.Lists.{Lists}
use Rattle.opa_model.specs.Models.{IsModel}
use Rattle.opa_case.specs.Cases.{CaseView}
use Rattle.opa_case.specs.declared.question.Question.{Question}
use Rattle.opa_tree.specs.declared.rulebase.Rulebase.{Rulebase}
use Rattle.opa_script.specs.declared.fault.CmdFault.{CmdFault}
use Rattle.opa_script.specs.declared.fault.CmdFault.TheVariants as fault
use Rattle.opa_script.specs.Commands.{IsNoCommand}
use Rattle.opa_script.specs.Replies.{IsNoReply}
use Rattle.opa_reply.specs.Held.{Held}
use Rattle.opa_reply.specs.Loads.{Loads}

-- A line has at most one fault, but for want of memory.
abbrev pub OneCommandFault : Type 0
OneCommandFault = (m : Lists) (line : List ℕ) (f g : CmdFault) → f ≢ fault.NoMemory → g ≢ fault.NoMemory → IsNoCommand m line f → IsNoCommand m line g → f ≡ g

-- The same of a line that is no reply to a question.
abbrev pub OneReplyFault : Type 0
OneReplyFault = (m : Lists) (q : Question) (line : List ℕ) (f g : CmdFault) → f ≢ fault.NoMemory → g ≢ fault.NoMemory → IsNoReply m q line f → IsNoReply m q line g → f ≡ g

-- Where files are told, loading the file of a name prints one text, and loads one case or none.
abbrev pub OneLoaded : Type 0
OneLoaded = (r : Rulebase) (files : Files) (name t u : List ℕ) (d e : Option CaseView) → Loads r (Some files) name t d → Loads r (Some files) name u e → (t ≡ u) × (d ≡ e)

-- the files of the shelf are told
abbrev pub IsTold : Held → Type 0
IsTold x = (files : Files) × (x.files ≡ Some files)

-- the lists of the rulebase are those of a model, as they are of every rulebase in a program
abbrev pub HasModel : Held → Type 0
HasModel x = IsModel x.rules.model

-- Where files are told, a line prints one text, and one thing is held after it.
abbrev pub OneReply : Rule Held → Type 0
OneReply rule = (x y z : Held) (line t u : List ℕ) → HasModel x → IsTold x → rule.Replies x line t y → rule.Replies x line u z → (t ≡ u) × (y ≡ z)

-- After a line the rulebase is the same one.
abbrev pub SameBase : Rule Held → Type 0
SameBase rule = (x y : Held) (line t : List ℕ) → rule.Replies x line t y → y.rules ≡ x.rules

-- Where files are told, they are told after a line too.
abbrev pub StaysTold : Rule Held → Type 0
StaysTold rule = (x y : Held) (line t : List ℕ) → IsTold x → rule.Replies x line t y → IsTold y

-- Where files are told, lines have one transcript, and one thing is held after them.
abbrev pub OneTranscript : Rule Held → Type 0
OneTranscript rule = (x y z : Held) (lines : List (List ℕ)) (t u : List ℕ) → HasModel x → IsTold x
    → IsTranscript rule x lines t y → IsTranscript rule x lines u z → (t ≡ u) × (y ≡ z)
