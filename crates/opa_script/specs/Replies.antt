-- What a line says in an interview, where a question was asked.
use Rattle.std.specs.Prelude.{◌≡◌, ◌≤◌, ◌⊎◌, ℕ, List, [], ◌∷◌, length, true, false, Option, None, Some, MatchOption, ◌==◌, if◌then◌else◌}
use Rattle.opa_value.specs.declared.value.Value.{Value}
use Rattle.opa_model.specs.declared.lists.Lists.{Lists}
use Rattle.opa_case.specs.declared.change.ChangeCommand.{ChangeCommand}
use Rattle.opa_case.specs.declared.change.ChangeCommand.TheVariants as change
use Rattle.opa_case.specs.declared.question.Question.{Question}
use Rattle.opa_case.specs.declared.question.Question.TheVariants as question
use Rattle.opa_words.specs.Pieces.{Piece}
use Rattle.opa_text.specs.Spelled.{SpellsLine, SpellsNames}
use Rattle.opa_script.specs.declared.command.Command.{Command}
use Rattle.opa_script.specs.declared.command.Command.TheVariants as command
use Rattle.opa_script.specs.declared.fault.CmdFault.{CmdFault}
use Rattle.opa_script.specs.declared.fault.CmdFault.TheVariants as fault
use Rattle.opa_script.specs.Lines.{past_blanks, is_idle, HasTokens}
use Rattle.opa_script.specs.Shapes.{AreShort}
use Rattle.opa_script.specs.Commands.{IsCommand, IsNoCommand}
use Rattle.opa_io.specs.declared.limits.TheConstants.{MOST_LINE}

-- what follows a slash at the front
abbrev pub after_slash : List ℕ → Option (List ℕ)
after_slash [] = None
after_slash (b ∷ bs) = if b == 47 then Some bs else None

-- what follows the slash that is the first character but blanks
abbrev pub slashed : List ℕ → Option (List ℕ)
slashed bytes = after_slash (past_blanks bytes)

-- ---- replies

-- tokens answer the question: a line for an attribute, names for a list
abbrev pub SaysChange : Question → List Piece → ChangeCommand → Type 0
SaysChange (question.Attr a i) ps c = (l : List (ℕ × Value)) × SpellsLine l ps × (c ≡ change.Answer a i l)
SaysChange (question.Members r i) ps c = (ns : List (List ℕ)) × SpellsNames ns ps × (c ≡ change.SetList r i ns)

-- and no text is over 1,000 bytes
abbrev pub AreReply : Question → List Piece → Command → Type 0
AreReply q ps c = AreShort ps × ((x : ChangeCommand) × SaysChange q ps x × (c ≡ command.Change x))

abbrev pub IsPlainReply : Question → List ℕ → Command → Type 0
IsPlainReply q bytes c = ((is_idle bytes ≡ true) × (c ≡ command.Nothing)) ⊎ ((is_idle bytes ≡ false) × ((ps : List Piece) × HasTokens bytes ps × AreReply q ps c))

abbrev pub IsNoPlainReply : Question → List ℕ → CmdFault → Type 0
IsNoPlainReply q bytes fault.NotACommand = (is_idle bytes ≡ false) × ((ps : List Piece) → HasTokens bytes ps → ⊥)
IsNoPlainReply q bytes fault.Name = ⊥
IsNoPlainReply q bytes fault.Value = (is_idle bytes ≡ false) × ((ps : List Piece) × HasTokens bytes ps × ((c : Command) → AreReply q ps c → ⊥))
IsNoPlainReply q bytes fault.NoMemory = Unit {0}

-- ---- commands behind a slash

-- unless the command is blank or a comment, the whole line isn't too long
abbrev pub IsNotLong : List ℕ → List ℕ → Type 0
IsNotLong bytes rest = is_idle rest ≡ false → length bytes ≤ MOST_LINE

abbrev pub IsNoSlashed : Lists → List ℕ → List ℕ → CmdFault → Type 0
IsNoSlashed m bytes rest fault.NotACommand = (is_idle rest ≡ false) × (length bytes ≤ MOST_LINE → IsNoCommand m rest fault.NotACommand)
IsNoSlashed m bytes rest fault.Name = (length bytes ≤ MOST_LINE) × IsNoCommand m rest fault.Name
IsNoSlashed m bytes rest fault.Value = (length bytes ≤ MOST_LINE) × IsNoCommand m rest fault.Value
IsNoSlashed m bytes rest fault.NoMemory = Unit {0}

-- ---- lines

-- a command behind a slash, else a reply
abbrev pub IsReply : Lists → Question → List ℕ → Command → Type 0
IsReply m q bytes c = MatchOption (slashed bytes) (IsPlainReply q bytes c) (λ rest. IsCommand m rest c × IsNotLong bytes rest)

-- neither, for this reason
abbrev pub IsNoReply : Lists → Question → List ℕ → CmdFault → Type 0
IsNoReply m q bytes f = MatchOption (slashed bytes) (IsNoPlainReply q bytes f) (λ rest. IsNoSlashed m bytes rest f)

-- ---- on the way there

abbrev pub SaysNothing : Question → List Piece → Type 0
SaysNothing q ps = (x : ChangeCommand) → SaysChange q ps x → ⊥

abbrev pub IsUnanswered : Question → List Piece → CmdFault → Type 0
IsUnanswered q ps fault.NotACommand = ⊥
IsUnanswered q ps fault.Name = ⊥
IsUnanswered q ps fault.Value = (c : Command) → AreReply q ps c → ⊥
IsUnanswered q ps fault.NoMemory = Unit {0}
