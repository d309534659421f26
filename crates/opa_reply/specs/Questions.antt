-- The question that stands beside a session, and lines that may lead to another.
use Rattle.std.specs.Prelude.{◌≡◌, ℕ, Bool, true, false, ◌&&◌, ◌||◌, List, [], ◌∷◌, Option, Result, Ok, Err}
use Rattle.std.specs.Option.{ForSome}
use Rattle.opa_case.specs.Cases.{CaseView}
use Rattle.opa_case.specs.declared.question.Question.{Question}
use Rattle.opa_need.specs.Goals.{next_of}
use Rattle.opa_script.specs.declared.command.Command.{Command}
use Rattle.opa_script.specs.declared.command.Command.TheVariants as command
use Rattle.opa_script.specs.declared.fault.CmdFault.{CmdFault}
use Rattle.opa_tree.specs.declared.rulebase.Rulebase.{Rulebase}

-- where a question is at hand, it is the one that is asked next
abbrev pub IsAtHand : Rulebase → CaseView → Option (Option Question) → Type 0
IsAtHand r c asked = ForSome asked (λ q. q ≡ next_of r c)

-- what was read names a file to load
abbrev pub loads : Result Command CmdFault → Bool
loads (Ok (command.Load name)) = true
loads _ = false

-- what was read is a change
abbrev pub alters : Result Command CmdFault → Bool
alters (Ok (command.Change k)) = true
alters _ = false

abbrev pub no_text : List ℕ → Bool
no_text [] = true
no_text (b ∷ bs) = false

-- a line may have brought another case: it named a file to load, or was a change that printed nothing
abbrev pub brings : Bool → Bool → List ℕ → Bool
brings load change text = load || (change && no_text text)
