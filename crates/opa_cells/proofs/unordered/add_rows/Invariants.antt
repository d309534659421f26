use Rattle.std.specs.Prelude.{map as items}
use Rattle.opa_cells.specs.Rows.{seen}
use Rattle.opa_cells.proofs.FoundCells.{AreRows}
use Rattle.opa_cells.proofs.unordered.add_rows.Given as goal

abbrev pub invariant-loop-number : goal.invariant-loop-number
invariant-loop-number g l = AreRows l.rows.entries l.number-iterator (items seen l.fn.cells.items) (items seen l.cells.items)
