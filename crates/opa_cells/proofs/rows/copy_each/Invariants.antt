use Rattle.std.specs.Prelude.{◌≡◌}
use Rattle.opa_cells.specs.Rows.{insert_each, by_number}
use Rattle.opa_cells.proofs.rows.copy_each.Given as goal

abbrev pub invariant-loop-number : goal.invariant-loop-number
invariant-loop-number g l = insert_each (by_number l.copied.entries) l.number-iterator ≡ insert_each (by_number l.fn.copied.entries) l.rows.entries
