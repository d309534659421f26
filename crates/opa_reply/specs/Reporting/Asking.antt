-- What is told of questions.
use Rattle.std.specs.Prelude.{ℕ, Bool, List, [], ◌∷◌, ◌++◌, codes, Option, None, Some, unwrap_or, if◌then◌else◌}
use Rattle.opa_model.specs.declared.lists.Lists.{Lists}
use Rattle.opa_case.specs.Cases.{CaseView}
use Rattle.opa_case.specs.declared.question.Question.{Question}
use Rattle.opa_tree.specs.declared.rulebase.Rulebase.{Rulebase}
use Rattle.opa_text.specs.Points.{question_text}
use Rattle.opa_mean.specs.Goals.States.{are_known, open_goal}
use Rattle.opa_need.specs.Goals.{next_of, relevant_or}
use Rattle.opa_text.specs.Screen.Screens.{screen_of, screen_text, title_or, numbered}
use Rattle.opa_reply.specs.Reporting.Goals.{goals_told}

-- the text of a question
abbrev pub asked : Lists → Question → List ℕ
asked m q = unwrap_or (question_text m q) []

abbrev pub no_question : List ℕ
no_question = codes "no question" ++ 10 ∷ []

abbrev pub question_told : Lists → Option Question → List ℕ
question_told m None = no_question
question_told m (Some q) = asked m q ++ 10 ∷ []

-- the question that is asked next
abbrev pub next_told : Rulebase → CaseView → List ℕ
next_told r c = question_told r.model (next_of r c)

abbrev pub on_screen : Lists → Option Question → List Question → List ℕ
on_screen m None qs = no_question
on_screen m (Some q) qs = screen_text m (screen_of m q) qs

-- the screen of the next question, with those of the relevant questions of the first open goal that lie on it
abbrev pub screen_told : Rulebase → CaseView → List ℕ
screen_told r c = on_screen r.model (next_of r c) (relevant_or r c (open_goal r c))

-- `[TITLE] QUESTION`
abbrev pub titled : Lists → Question → List ℕ
titled m q = codes "[" ++ (title_or (numbered m (screen_of m q)) ++ (codes "] " ++ (asked m q ++ 10 ∷ [])))

abbrev pub titled_or : Lists → Option Question → List ℕ
titled_or m None = []
titled_or m (Some q) = titled m q

-- the interview is over where every goal is known at every day
abbrev pub is_over : Rulebase → CaseView → Bool
is_over r c = are_known r c

-- what an interview prints before a line: where it is over the goals, else the next question behind its screen's title
abbrev pub prompt_told : Rulebase → CaseView → List ℕ
prompt_told r c = if is_over r c then goals_told r c else titled_or r.model (next_of r c)
