-- How a refusal is printed.
use Rattle.std.specs.Prelude.{ℕ, List, [], ◌∷◌, ◌++◌, codes}
use Rattle.std.specs.Fmt.{decimal}
use Rattle.opa_words.specs.Names.{printed_name}
use Rattle.opa_tree.specs.declared.faults.RbKind.{RbKind}
use Rattle.opa_tree.specs.Faults.{number_of}

-- a line for each attribute of a circle
abbrev pub circle_lines : List (List ℕ) → List ℕ
circle_lines [] = []
circle_lines (phrase ∷ more) = codes "  " ++ (phrase ++ (10 ∷ circle_lines more))

-- `refused: rulebase N FILE:LINE`, and the lines of a circle
abbrev pub refusal_text : RbKind → List ℕ → ℕ → List (List ℕ) → List ℕ
refusal_text kind name line circle = codes "refused: rulebase " ++ (decimal (number_of kind) ++ (codes " " ++ (printed_name name ++ (codes ":" ++ (decimal line ++ (10 ∷ circle_lines circle))))))
