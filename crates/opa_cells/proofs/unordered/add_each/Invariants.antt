use Rattle.std.specs.Prelude.{map as items}
use Rattle.std.specs.Prelude.{◌≡◌, ◌++◌}
use Rattle.opa_cells.specs.Rows.{row_entries, seen}
use Rattle.opa_cells.specs.Unordered.{besides}
use Rattle.opa_cells.proofs.unordered.add_each.Given as goal

abbrev pub invariant-loop-inst : goal.invariant-loop-inst
invariant-loop-inst g l = items seen l.cells.items ++ row_entries l.number (besides l.one l.inst-iterator) ≡ items seen l.fn.cells.items ++ row_entries l.number (besides l.one l.found.entries)
