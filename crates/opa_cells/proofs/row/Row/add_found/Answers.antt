use Rattle.std.specs.Prelude.{map as items}
use Rattle.std.proofs.Common.{sym, ap, subst, ◌∙◌}
use Rattle.opa_io.proofs.Lists.{map_append}
use Rattle.opa_cells.specs.Rows.{seen, with_one, without}
use Rattle.opa_cells.specs.Unordered.{AddsRow}
use Rattle.opa_cells.proofs.FoundCells.{none_added, one_added}
use Rattle.opa_cells.proofs.row.Row.add_found.Goals as goal

pub returns-in_ok-push-in-Some : goal.returns-in_ok-push-in-Some
returns-in_ok-push-in-Some g c =
    one_added c.args.number (c.in-Some.inst, c.in-Some.value) c.self.inside.others c.args.self.now (items seen c.args.cells.now.items) (items seen c.add_found.new.cells.items) (items seen c.push.new.self.items)
    (ap (λ o. with_one o c.self.inside.others) (sym c.in-Some.is) ∙ c.self.view_is)
    (subst (λ o. AddsRow c.args.number (without c.self.inside.others o) (items seen c.args.cells.now.items) (items seen c.add_found.new.cells.items)) c.in-Some.is c.in_ok-add_found.ensures)
    (ap (items seen) c.in_ok-push-in-Some.ensures.items ∙ map_append seen _ _)

pub returns-in-None : goal.returns-in-None
returns-in-None g c =
    none_added c.args.number c.self.inside.others c.args.self.now (items seen c.args.cells.now.items) (items seen c.add_found.new.cells.items)
    (ap (λ o. with_one o c.self.inside.others) (sym c.in-None.is) ∙ c.self.view_is)
    (subst (λ o. AddsRow c.args.number (without c.self.inside.others o) (items seen c.args.cells.now.items) (items seen c.add_found.new.cells.items)) c.in-None.is c.in_ok-add_found.ensures)
