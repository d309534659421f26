-- Lines of attributes at instances, as what is looked up.
use Rattle.std.specs.Prelude.{◌≡◌, ℕ, true, is_some, List, Some}
use Rattle.std.specs.List.{AllByRecursion}
use Rattle.std.specs.FinMap.{FinMap, get, insert}
use Rattle.opa_date.specs.declared.TheConstants.{DAYS}
use Rattle.opa_line.specs.Lines.{StandsFor}
use Rattle.opa_model.specs.declared.ids.AttrId.{AttrId}
use Rattle.opa_cells.specs.Keys.{cell_cmp}
use Rattle.opa_cells.specs.declared.instance.InstanceId.{InstanceId}
use Rattle.opa_case.specs.Cases.{CaseView, Answer, list_of}
use Rattle.opa_case.specs.Live.{container_of}
use Rattle.opa_case.specs.declared.question.Question.{Question}
use Rattle.opa_case.specs.declared.question.Question.TheVariants as question
use Rattle.opa_mean.specs.Given.{line_value}
use Rattle.opa_mean.specs.Looks.{Look}
use Rattle.opa_mean.specs.Mean.{Base, Facts, mean_by}

-- the lines, and the lists and containers of a case
abbrev pub table_look : CaseView → FinMap cell_cmp Answer → Look
table_look c lines = record { value = λ a i d. line_value (get lines (a.0, i)) d; members = list_of c; container = container_of c.live }

-- there is a line for a question of an attribute
abbrev pub HasLine : FinMap cell_cmp Answer → Question → Type 0
HasLine lines (question.Attr a i) = is_some (get lines (a.0, i)) ≡ true
HasLine lines (question.Members r i) = Unit {0}

-- each line has the values of at most so many steps, and each question of an attribute has one
pub record AreLines (b : Base) (c : Facts) (n : ℕ) (asked : List Question) (lines : FinMap cell_cmp Answer) : Type 0 where
  pub right : (a : AttrId) (i : InstanceId) (line : Answer) → get lines (a.0, i) ≡ Some line → StandsFor DAYS (mean_by b c n a i) line
  pub there : AllByRecursion (HasLine lines) asked

-- the line that a question asks for is added
abbrev pub AddsLine : Base → Facts → ℕ → Question → FinMap cell_cmp Answer → FinMap cell_cmp Answer → Type 0
AddsLine b c n (question.Attr a i) old new = (line : Answer) × StandsFor DAYS (mean_by b c n a i) line × (new ≡ insert old (a.0, i) line)
AddsLine b c n (question.Members r i) old new = new ≡ old
