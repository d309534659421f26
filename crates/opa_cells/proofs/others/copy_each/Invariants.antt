use Rattle.std.specs.Prelude.{◌≡◌}
use Rattle.opa_cells.specs.Rows.{insert_each}
use Rattle.opa_cells.proofs.others.copy_each.Given as goal

abbrev pub invariant-loop-inst : goal.invariant-loop-inst
invariant-loop-inst g l = insert_each l.copied l.inst-iterator ≡ insert_each l.fn.copied l.cells.entries
