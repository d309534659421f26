-- The case that a file makes.
use Rattle.std.proofs.Common.{◌≡◌, ◌≤◌, List, arith, ap, ◌∙◌}
use Rattle.std.specs.Prelude.{Bool, Option}
use Rattle.std.specs.FinMap.{FinMap, empty, len, len-empty}
use Rattle.opa_model.specs.declared.lists.Lists.{Lists}
use Rattle.opa_cells.specs.Keys.{cell_cmp}
use Rattle.opa_case.specs.declared.change.Refusal.{Refusal}
use Rattle.opa_case.specs.Cases.{CaseView, Answer, stored}
use Rattle.opa_case.specs.Live.{Names, Population, live_of}
use Rattle.opa_case.specs.Shapes.{shape_of}
use Rattle.opa_saved.specs.declared.entries.AnswerEntry.{AnswerEntry}
use Rattle.opa_saved.specs.declared.fault.LoadFault.{LoadFault}
use Rattle.opa_saved.specs.Forms.{File}
use Rattle.opa_saved.specs.Building.{with_answers}
use Rattle.opa_saved.specs.Loading.{case_with, case_of, lists_of_file, answers_of_file, put_answers, live_in, entry_refusals, least_of}

pub answers_start : (m : Lists) (es : List AnswerEntry) (before : FinMap cell_cmp Answer) → before ≡ empty → put_answers m before es ≡ answers_of_file m es
unfolding answers_of_file
answers_start m es before e = ap (λ b. put_answers m b es) e

pub no_answers : (before : FinMap cell_cmp Answer) → before ≡ empty → len before ≤ 100000
no_answers before e = omega (arith, ap len e, len-empty cell_cmp Answer)

module _ (m : Lists) (f : File) (lists : FinMap cell_cmp Names) (is : lists ≡ lists_of_file m f.lists) (c : CaseView) (made : c ≡ case_with (shape_of m) lists empty) where
  pub none_yet : c.answers ≡ empty
  none_yet = ap (λ (x : CaseView). x.answers) made

  pub case_made : (new : CaseView) → new ≡ with_answers c (put_answers m c.answers f.answers) → new ≡ case_of m f
  case_made new h =
      h ∙ ap (with_answers c) (answers_start m f.answers c.answers none_yet) ∙ ap (λ (x : CaseView). with_answers x (answers_of_file m f.answers)) made
      ∙ ap (λ l. case_with (shape_of m) l (answers_of_file m f.answers)) is

-- ---- the refusals that were gathered

module _ (m : Lists) (ruled : List Bool) (f : File) (lists : FinMap cell_cmp Names) (is : lists ≡ lists_of_file m f.lists) (living : Population) (live : living ≡ live_of (shape_of m) (stored lists)) where
  pub least_is : (rs : List Refusal) (o : Option LoadFault) → rs ≡ entry_refusals m ruled living f → o ≡ least_of rs → o ≡ least_of (entry_refusals m ruled (live_in m f) f)
  least_is rs o e h = h ∙ ap least_of (e ∙ ap (λ l. entry_refusals m ruled l f) (live ∙ ap (λ x. live_of (shape_of m) (stored x)) is))
