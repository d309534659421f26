use Rattle.std.proofs.Common.{ap, ◌∙◌}
use Rattle.opa_cells.specs.Rows.{insert_each}
use Rattle.opa_cells.proofs.Sorted.{row_each}
use Rattle.opa_cells.proofs.others.Others.copy.Goals as goal

pub returns : goal.returns
returns g c =
    let es = c.self.inside.cells.entries in
    c.in_ok-copy_each.ensures ∙ ap (λ m. insert_each m es) c.in_ok-copied.ensures ∙ row_each es c.len-cells.ensures.unique ∙ c.self.view_is
