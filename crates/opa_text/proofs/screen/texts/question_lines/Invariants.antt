use Rattle.std.proofs.Common.{◌≡◌, ◌++◌, length}
use Rattle.std.specs.List.{AllByRecursion}
use Rattle.std.specs.String.{string_bytes}
use Rattle.opa_text.specs.Screen.Screens.{question_lines, shown_on}
use Rattle.opa_text.specs.Points.{HasAsked}
use Rattle.opa_text.proofs.screen.texts.question_lines.Given as goal

-- what is written and the lines of the questions that are left are all lines, and these are declared
abbrev pub invariant-loop-question : goal.invariant-loop-question
invariant-loop-question l =
    (string_bytes l.out ++ question_lines l.model (shown_on l.model l.screen l.rest) ≡ question_lines l.model (shown_on l.model l.screen l.fn.questions)) × AllByRecursion (HasAsked l.model) l.rest

abbrev pub decreases-loop-question : goal.decreases-loop-question
decreases-loop-question l = length l.rest
