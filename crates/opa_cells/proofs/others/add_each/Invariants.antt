use Rattle.std.specs.Prelude.{◌≡◌}
use Rattle.opa_cells.specs.Instances.{instance_cmp}
use Rattle.opa_cells.specs.Rows.{insert_each, tree_map}
use Rattle.opa_cells.proofs.others.add_each.Given as goal

abbrev pub invariant-loop-inst : goal.invariant-loop-inst
invariant-loop-inst g l = insert_each (tree_map instance_cmp l.tree.entries) l.inst-iterator ≡ insert_each (tree_map instance_cmp l.fn.tree.entries) l.cells.entries
