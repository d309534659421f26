use Rattle.std.specs.Prelude.{map as items}
use Rattle.opa_cells.specs.Rows.{seen}
use Rattle.opa_cells.proofs.FoundCells.{others_added}
use Rattle.opa_cells.proofs.others.Others.add_found.Goals as goal

pub returns : goal.returns
returns g c = others_added c.args.number c.args.one.now c.self.inside.cells.entries c.args.self.now (items seen c.args.cells.now.items) (items seen c.add_each.new.cells.items) c.len-cells.ensures.unique c.self.view_is c.in_ok-add_each.ensures
