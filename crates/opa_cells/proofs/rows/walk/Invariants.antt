use Rattle.std.specs.Prelude.{map as items}
use Rattle.std.specs.Prelude.{◌≡◌, ◌++◌}
use Rattle.opa_cells.specs.Rows.{all_entries, seen, seen_in}
use Rattle.opa_cells.proofs.rows.walk.Given as goal

abbrev pub invariant-loop-number : goal.invariant-loop-number
invariant-loop-number g l = items seen l.cells.items ++ all_entries (items seen_in l.number-iterator) ≡ all_entries (items seen_in l.rows.entries)
