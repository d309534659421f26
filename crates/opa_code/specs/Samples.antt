-- Lines and one list of names, as the tests look them up.
use Rattle.std.specs.Prelude.{ℕ, List, Bool, true, false, Option, None, Some}
use Rattle.std.specs.FinMap.{FinMap, get}
use Rattle.opa_cells.specs.Keys.{cell_cmp}
use Rattle.opa_case.specs.Cases.{Answer}
use Rattle.opa_mean.specs.Given.{line_value}
use Rattle.opa_mean.specs.Looks.{Look}

abbrev pub listed_if : Bool → List (List ℕ) → Option (List (List ℕ))
listed_if true names = Some names
listed_if false names = None

-- every relation lists these names where there is a list, and nothing is contained
abbrev pub sample_look : FinMap cell_cmp Answer → Bool → List (List ℕ) → Look
sample_look lines is_listed names = record { value = λ a i d. line_value (get lines (a.0, i)) d; members = λ r i. listed_if is_listed names; container = λ i. None }
