use Rattle.std.specs.Prelude.{◌≡◌, ◌<◌, ◌^◌, ◌+◌}
use Rattle.opa_cells.specs.Rows.{cells_in}
use Rattle.opa_cells.proofs.rows.count.Given as goal

abbrev pub invariant-loop-row : goal.invariant-loop-row
invariant-loop-row g l = cells_in l.rows.entries < 2 ^ 64 → l.count + cells_in l.row-iterator ≡ cells_in l.rows.entries
