use Rattle.std.proofs.Common.{sym, ap, ◌∙◌}
use Rattle.std.specs.FinMap as map
use Rattle.opa_cells.specs.Keys.{cell_cmp}
use Rattle.opa_cells.proofs.cells.Cells.new.Goals as goal

pub invariant_of-result : goal.invariant_of-result
invariant_of-result g c = sym (ap map.len c.new.ensures ∙ map.len-empty cell_cmp _)
