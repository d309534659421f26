-- What is asked next.
use Rattle.std.specs.Prelude.{◌≡◌, ◌≢◌, ◌↔◌, ℕ, ◌<◌, List, [], ◌∷◌, map, find, Option, None, Some}
use Rattle.std.specs.List.{AllByRecursion}
use Rattle.opa_date.specs.declared.TheConstants.{DAYS}
use Rattle.opa_value.specs.declared.value.Value.{Value}
use Rattle.opa_value.specs.declared.value.Value.TheVariants.{Unknown}
use Rattle.opa_value.specs.Truth.{is_unknown}
use Rattle.opa_model.specs.declared.ids.AttrId.{AttrId}
use Rattle.opa_cells.specs.Instances.{global}
use Rattle.opa_case.specs.declared.question.Question.{Question}
use Rattle.opa_case.specs.declared.question.Question.TheVariants as question
use Rattle.opa_tree.specs.FirstOnes.{first_ones}
use Rattle.opa_window.specs.Days.{days}
use Rattle.opa_mean.specs.Mean.{Base, Facts, mean}
use Rattle.opa_mean.specs.Needs.{needs_of}
use Rattle.opa_mean.specs.Sameness.{same_question}
use Rattle.opa_mean.specs.Uses.{Use, Point, Listed}

-- as a question a point loses its day
abbrev pub question_of : Use → Question
question_of (Point a i d) = question.Attr a i
question_of (Listed r i) = question.Members r i

-- in written order, each once
abbrev pub questions : List Use → List Question
questions us = first_ones same_question (map question_of us)

-- the first day, of so many, at which a value is unknown
unfoldable pub first_unknown : ℕ → (ℕ → Value) → Option ℕ
first_unknown end f = find (λ d. is_unknown (f d)) (days 0 end)

abbrev pub asked_at : Base → Facts → AttrId → Option ℕ → List Question
asked_at b c goal None = []
asked_at b c goal (Some d) = questions (needs_of b c goal global d)

-- the relevant questions of a goal: its needs at the first day at which it is unknown
abbrev pub relevant : Base → Facts → AttrId → List Question
relevant b c goal = asked_at b c goal (first_unknown DAYS (mean b c goal global))

abbrev pub first_or : List Question → Option Question → Option Question
first_or [] rest = rest
first_or (q ∷ qs) rest = Some q

-- the first question of the first goal that has one
abbrev pub next : Base → Facts → List AttrId → Option Question
next b c [] = None
next b c (goal ∷ goals) = first_or (relevant b c goal) (next b c goals)

-- the goal is known at every day
abbrev pub IsKnown : Base → Facts → AttrId → Type 0
IsKnown b c goal = (d : ℕ) → d < DAYS → mean b c goal global d ≢ Unknown

-- nothing is asked exactly where every goal is known at every day
abbrev pub AskedUntilKnown : Base → Facts → Type 0
AskedUntilKnown b c = (goals : List AttrId) → (next b c goals ≡ None) ↔ AllByRecursion (IsKnown b c) goals
