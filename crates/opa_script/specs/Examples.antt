-- The example rulebase that is generated, and the input for it.
use Rattle.std.specs.Prelude.{ℕ, zero, suc, ◌+◌, ◌*◌, ◌%◌, List, [], ◌∷◌, ◌++◌, ◌==◌, nat_lt, decimal, codes, if◌then◌else◌}

-- each line is followed by a line feed
abbrev pub lines_text : List (List ℕ) → List ℕ
lines_text [] = []
lines_text (l ∷ ls) = l ++ 10 ∷ lines_text ls

abbrev pub rules_text : List ℕ
rules_text =
    lines_text
    (codes "global"
    ∷ codes "  currency the total"
    ∷ codes "  number the number above"
    ∷ codes "entity the person"
    ∷ codes "  in global: the people"
    ∷ codes "  currency the person's income"
    ∷ codes "goal the total"
    ∷ codes "goal the number above"
    ∷ codes "the total = InstanceSum(the people, the person's income)"
    ∷ codes "the number above = InstanceCountIf(the people, the person's income > 300)"
    ∷ [])

-- the name of a person, between quotes
abbrev pub person : ℕ → List ℕ
person k = codes "\"P" ++ (decimal k ++ codes "\"")

-- the names from the first one on, with `, ` between them
abbrev pub gap_before : ℕ → List ℕ
gap_before k = if k == 1 then [] else codes ", "

unfoldable pub people : ℕ → List ℕ
people zero = []
people (suc n) = people n ++ (gap_before (suc n) ++ person (suc n))

-- the first income, and the month from which it is 5 more
abbrev pub income : ℕ → ℕ → ℕ
income seed k = ((31 * seed + 17 * k) % 50) * 10 + 100

abbrev pub month : ℕ → ℕ
month k = k % 12 + 1

abbrev pub two_digits : ℕ → List ℕ
two_digits n = if nat_lt n 10 then 48 ∷ decimal n else decimal n

abbrev pub first_income : ℕ → ℕ → List ℕ
first_income seed k = codes "answer the person's income of " ++ (person k ++ (codes " = " ++ decimal (income seed k)))

abbrev pub later_income : ℕ → ℕ → List ℕ
later_income seed k = codes "; from 2024-" ++ (two_digits (month k) ++ (codes "-01 " ++ decimal (income seed k + 5)))

abbrev pub answer_line : ℕ → ℕ → List ℕ
answer_line seed k = first_income seed k ++ later_income seed k

unfoldable pub answers : ℕ → ℕ → List ℕ
answers seed zero = []
answers seed (suc n) = answers seed n ++ (answer_line seed (suc n) ++ 10 ∷ [])

abbrev pub list_line : ℕ → List ℕ
list_line size = codes "list the people = " ++ (people size ++ 10 ∷ [])

-- a list of so many people, their incomes, and two questions
abbrev pub input_text : ℕ → ℕ → List ℕ
input_text seed size = list_line size ++ (answers seed size ++ lines_text (codes "goals" ∷ codes "stats" ∷ []))
