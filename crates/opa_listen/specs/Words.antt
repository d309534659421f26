-- The texts of changes, and what is said of those that were kept.
use Rattle.std.specs.Prelude.{ℕ, zero, suc, ◌-◌, List, [], ◌∷◌, ◌++◌, length, Option, None, Some, slice_get, codes}
use Rattle.std.specs.Fmt.{decimal}
use Rattle.opa_date.specs.Texts.{day_text}
use Rattle.opa_text.specs.Points.{point_text}
use Rattle.opa_text.specs.Texts.{value_text}
use Rattle.opa_listen.specs.declared.change.Change.{Change}

-- `OLD to NEW`
abbrev pub values_text : Change → List ℕ
values_text c = value_text c.kind c.was ++ (codes " to " ++ value_text c.kind c.now)

-- `DATE: OLD to NEW`
abbrev pub dated_text : Change → List ℕ
dated_text c = day_text c.day ++ (codes ": " ++ values_text c)

-- `POINT on DATE: OLD to NEW`
abbrev pub change_text : Change → List ℕ
change_text c = point_text c.phrase c.inst ++ (codes " on " ++ dated_text c)

-- a line for each change
abbrev pub change_lines : List Change → List ℕ
change_lines [] = []
change_lines (c ∷ cs) = change_text c ++ (10 ∷ change_lines cs)

abbrev pub latest : List Change → Option Change
latest kept = slice_get kept (length kept - 1)

-- how many there were, and the last of them
abbrev pub count_text : ℕ → Option Change → List ℕ
count_text n None = codes "0 changes"
count_text n (Some c) = decimal n ++ (codes " changes, last: " ++ change_text c)

-- what is said at the end of the changes that were kept: in style 0 each of them, in style 1 how many and the last, else nothing
abbrev pub words : ℕ → List Change → List ℕ
words zero kept = change_lines kept
words (suc zero) kept = count_text (length kept) (latest kept) ++ 10 ∷ []
words (suc (suc style)) kept = []
