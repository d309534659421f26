use Rattle.opa_cells.proofs.Numbered.{row_put}
use Rattle.opa_cells.proofs.rows.put.Goals as goal

pub returns-in-Ok : goal.returns-in-Ok
returns-in-Ok g c = row_put c.args.rows.now.entries c.insert.new.self.entries c.args.number c.args.row c.in-Ok.ensures.updates.0
