use Rattle.std.proofs.Common.{sym, ap, ◌∙◌}
use Rattle.std.specs.Option.{option_copied}
use Rattle.std.specs.FinMap as map
use Rattle.opa_cells.proofs.Rowed.{at_row}
use Rattle.opa_cells.proofs.Numbered.{row_found}
use Rattle.opa_cells.proofs.rows.Rows.get.Goals as goal

pub returns-in-Some : goal.returns-in-Some
returns-in-Some g c =
    c.get-in-Some.ensures
    ∙ at_row c.self.inside.rows.entries c.args.number c.args.inst.now _ (ap option_copied (sym c.in-Some.is) ∙ c.get.ensures.value ∙ row_found c.self.inside.rows.entries c.args.number)
    ∙ ap (λ m. map.get m (c.args.number, c.args.inst.now)) c.self.view_is

pub returns-in-None : goal.returns-in-None
returns-in-None g c =
    at_row c.self.inside.rows.entries c.args.number c.args.inst.now _ (ap option_copied (sym c.in-None.is) ∙ c.get.ensures.value ∙ row_found c.self.inside.rows.entries c.args.number)
    ∙ ap (λ m. map.get m (c.args.number, c.args.inst.now)) c.self.view_is
