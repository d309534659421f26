use Rattle.std.specs.Prelude.{map as items}
use Rattle.std.specs.Prelude.{◌≡◌, ◌++◌}
use Rattle.opa_cells.specs.Rows.{row_entries, seen, seen_in}
use Rattle.opa_cells.proofs.rows.add_cells.Given as goal

abbrev pub invariant-loop-inst : goal.invariant-loop-inst
invariant-loop-inst g l = items seen l.cells.items ++ row_entries l.number (items seen_in l.inst-iterator) ≡ items seen l.fn.cells.items ++ row_entries l.number (items seen_in l.tree.entries)
