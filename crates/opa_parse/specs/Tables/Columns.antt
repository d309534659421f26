-- The rules of a table: one for each conclusion column.
use Rattle.std.specs.Prelude.{ℕ, ◌+◌, true, false, List, [], ◌∷◌, ◌++◌, Option, Some, None, slice_get}
use Rattle.opa_value.specs.declared.value.Value.TheVariants as value
use Rattle.opa_model.specs.declared.ids.AttrId.{AttrId}
use Rattle.opa_sentence.specs.declared.reading.Reading.{Reading}
use Rattle.opa_sentence.specs.Measures.{bounded}
use Rattle.opa_sentence.specs.Readings as says
use Rattle.opa_parse.specs.declared.block.RuleBlock.{RuleBlock}
use Rattle.opa_parse.specs.declared.group.Cases.{Cases}
use Rattle.opa_parse.specs.declared.group.Mark.{Mark}
use Rattle.opa_parse.specs.declared.group.Said.{Said}
use Rattle.opa_parse.specs.Blocks.{statement}
use Rattle.opa_parse.specs.Sayings.{line_marks, of_line, no_cases, with_case, tabled}
use Rattle.opa_parse.specs.declared.tables.cells.Case.{Case}
use Rattle.opa_parse.specs.declared.tables.cells.Found.{Found}
use Rattle.opa_parse.specs.declared.tables.cells.Found.TheVariants as found
use Rattle.opa_parse.specs.declared.tables.cells.Last.{Last}
use Rattle.opa_parse.specs.declared.tables.cells.Table.{Table}
use Rattle.opa_parse.specs.declared.tables.cells.Test.{Test}
use Rattle.opa_parse.specs.declared.tables.cells.Test.TheVariants as test

-- ---- conditions

-- what a cell asks for of the head above it
abbrev pub compared : Reading → Test → List Reading
compared x test.Nothing = []
compared x (test.Compares k y) = says.between bounded k x y ∷ []

-- the comparisons that a record asks for
abbrev pub comparisons : List Reading → List Test → List Reading
comparisons [] ts = []
comparisons (x ∷ xs) [] = []
comparisons (x ∷ xs) (t ∷ ts) = compared x t ++ comparisons xs ts

-- true for none, the one comparison, or all of several
abbrev pub all_of : List Reading → Reading
all_of [] = says.literal bounded (value.Bool true)
all_of (x ∷ []) = x
all_of (x ∷ y ∷ xs) = says.all bounded (says.lines bounded (x ∷ y ∷ xs))

-- the faults that a literal has by itself
abbrev pub marks_of : ℕ → Test → List Mark
marks_of number test.Nothing = []
marks_of number (test.Compares k y) = line_marks number y.measure

abbrev pub test_marks : ℕ → List Test → List Mark
test_marks number [] = []
test_marks number (t ∷ ts) = marks_of number t ++ test_marks number ts

abbrev pub condition : List Reading → Case → Said
condition heads r = record { reading = all_of (comparisons heads r.tests); marks = test_marks r.number r.tests }

-- ---- columns

-- the faults that the heads have by themselves, in the first record
abbrev pub head_marks : List Reading → List Mark
head_marks [] = []
head_marks (x ∷ xs) = line_marks 1 x.measure ++ head_marks xs

abbrev pub or_unnamed : Option Reading → Reading
or_unnamed None = says.unnamed bounded
or_unnamed (Some x) = x

-- the value below the conclusion head of this place, in the record of this number
abbrev pub value_at : ℕ → ℕ → List Reading → Said
value_at place number values = of_line number (or_unnamed (slice_get values place))

abbrev pub no_cases_below : List Reading → Cases
no_cases_below heads = record no_cases { marks = head_marks heads }

abbrev pub with_cases : List Reading → ℕ → Cases → List Case → Cases
with_cases heads place before [] = before
with_cases heads place before (r ∷ rs) = with_cases heads place (with_case before (value_at place r.number r.values) (condition heads r)) rs

-- with conditions, the table of all cases; without, the value itself
abbrev pub column_by : List Reading → ℕ → List Case → Last → Said
column_by [] place cs x = value_at place x.number x.values
column_by (h ∷ hs) place cs x = tabled (with_cases (h ∷ hs) place (no_cases_below (h ∷ hs)) cs) (value_at place x.number x.values)

-- what is concluded in the column of this place
abbrev pub column : Table → ℕ → Said
column t place = column_by t.heads.conditions place t.cases t.last

-- ---- rules

-- the rule of a column, which stands in line 1 of the file
abbrev pub column_block : ℕ → Table → ℕ → Option AttrId → RuleBlock
column_block file t place a = record { file = file; line = 1; statement = Some (statement a false (column t place)) }

-- those of the columns from this place on
abbrev pub blocks_from : ℕ → Table → ℕ → List (Option AttrId) → List RuleBlock
blocks_from file t place [] = []
blocks_from file t place (a ∷ more) = column_block file t place a ∷ blocks_from file t (place + 1) more

-- a record that isn't spelled stands for a rule that isn't
abbrev pub unspelled_block : ℕ → ℕ → RuleBlock
unspelled_block file n = record { file = file; line = n; statement = None }

abbrev pub blocks_of : ℕ → Found → List RuleBlock
blocks_of file (found.Table t) = blocks_from file t 0 t.heads.conclusions
blocks_of file (found.Unspelled n) = unspelled_block file n ∷ []
