use Rattle.std.proofs.Common.{sym, subst, ◌∙◌, ◌↔◌, IsTrue}
use Rattle.opa_parse.specs.Tables.Cells.{IsOtherwiseCell}
use Rattle.opa_parse.proofs.tables.RowLaws.{otherwise_first}
use Rattle.opa_parse.proofs.tables.values.are_otherwise.Goals as goal

pub returns-in_ok-is_last-in-Some : goal.returns-in_ok-is_last-in-Some
returns-in_ok-is_last-in-Some c =
    otherwise_first c.args.cells.now c.in-Some.rest.now c.in-Some.cell.now c.in_ok-is_last-in-Some.is_last c.in-Some.ensures (sym c.are_empty.ensures ∙ c.if-are_empty.true)
    (subst (λ x. IsTrue c.in_ok-is_last-in-Some.is_last ↔ IsOtherwiseCell x) c.as_slice.ensures c.in_ok-is_last-in-Some.ensures)
