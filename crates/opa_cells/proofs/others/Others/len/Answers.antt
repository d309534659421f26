use Rattle.std.proofs.Common.{ap, sym, ◌∙◌}
use Rattle.std.specs.FinMap as map
use Rattle.opa_cells.proofs.Inner.{row_len}
use Rattle.opa_cells.proofs.others.Others.len.Goals as goal

pub returns-clause-len : goal.returns-clause-len
returns-clause-len g c = c.len.ensures.len ∙ sym (row_len c.self.inside.cells.entries c.len.ensures.unique) ∙ ap map.len c.self.view_is
