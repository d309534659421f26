use Rattle.std.proofs.Common.{ap, sym, ◌∙◌}
use Rattle.opa_parse.specs.Sayings.{tabled}
use Rattle.opa_parse.specs.Tables.Columns.{value_at, no_cases_below, with_cases, column_by}
use Rattle.opa_parse.proofs.tables.ColumnLaws.{column_several}
use Rattle.opa_parse.proofs.tables.columns.column.Goals as goal

pub returns : goal.returns
returns c =
    let d = c.args.table.now in let place = c.args.place in
    let heads = c.as_slice-heads.result.now in
    let several = sym c.is_empty.ensures ∙ c.if-is_empty.false in
    let cases = c.in_ok-cases.ensures ∙ ap (λ b. with_cases heads place b c.as_slice-2.result.now) c.in_ok-none.ensures ∙ ap (with_cases heads place (no_cases_below heads)) c.as_slice-2.ensures in
    let last = c.in_ok-last.ensures ∙ ap (value_at place d.last.number) c.as_slice.ensures in
    c.in_ok-said.ensures ∙ ap (λ x. tabled x c.in_ok-last.last) cases ∙ ap (tabled (with_cases heads place (no_cases_below heads) d.cases)) last
    ∙ sym (column_several heads place d.cases d.last several) ∙ ap (λ hs. column_by hs place d.cases d.last) c.as_slice-heads.ensures
