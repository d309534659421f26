use Rattle.std.proofs.Common.{sym, ap, ◌∙◌}
use Rattle.std.specs.Option.{option_copied}
use Rattle.opa_cells.specs.Rows.{cells_at}
use Rattle.opa_cells.proofs.Walked.{row_counted, no_row_counted}
use Rattle.opa_cells.proofs.Numbered.{row_found}
use Rattle.opa_cells.proofs.rows.Rows.len_of.Goals as goal

pub returns-in-Some : goal.returns-in-Some
returns-in-Some g c =
    let at = sym (c.get-row.ensures.value ∙ row_found c.self.inside.rows.entries c.args.number) ∙ ap option_copied c.in-Some.is in
    c.len.ensures ∙ sym (row_counted c.self.inside.rows.entries c.args.number c.in-Some.row.now at)
    ∙ ap (λ m. cells_at m c.args.number) c.self.view_is

pub returns-in-None : goal.returns-in-None
returns-in-None g c =
    let none = sym (c.get-row.ensures.value ∙ row_found c.self.inside.rows.entries c.args.number) ∙ ap option_copied c.in-None.is in
    sym (no_row_counted c.self.inside.rows.entries c.args.number none) ∙ ap (λ m. cells_at m c.args.number) c.self.view_is
