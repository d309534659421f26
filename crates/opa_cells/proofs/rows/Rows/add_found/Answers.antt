use Rattle.std.specs.Prelude.{map as items}
use Rattle.opa_cells.specs.Rows.{seen}
use Rattle.opa_cells.proofs.FoundCells.{rows_added}
use Rattle.opa_cells.proofs.rows.Rows.add_found.Goals as goal

pub returns : goal.returns
returns g c = rows_added c.self.inside.rows.entries c.args.self.now (items seen c.args.cells.now.items) (items seen c.add_rows.new.cells.items) c.len-rows.ensures.unique c.self.view_is c.in_ok-add_rows.ensures
