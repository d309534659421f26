use Rattle.std.specs.Prelude.{◌≡◌}
use Rattle.std.specs.Ordering.{nat_cmp}
use Rattle.opa_cells.specs.Rows.{insert_each, tree_map}
use Rattle.opa_cells.proofs.rows.add_rows.Given as goal

abbrev pub invariant-loop-number : goal.invariant-loop-number
invariant-loop-number g l = insert_each (tree_map nat_cmp l.tree.entries) l.number-iterator ≡ insert_each (tree_map nat_cmp l.fn.tree.entries) l.rows.entries
