use Rattle.std.proofs.Common.{◌<◌, ◌^◌, ap, sym, subst, ◌∙◌}
use Rattle.std.specs.FinMap as map
use Rattle.opa_cells.proofs.Numbered.{rows_len}
use Rattle.opa_cells.proofs.rows.Rows.counted.Goals as goal

pub returns : goal.returns
returns g c less =
    let is = ap map.len (sym c.self.view_is) ∙ rows_len c.self.inside.rows.entries c.len-rows.ensures.unique in
    c.count.ensures (subst (λ n. n < 2 ^ 64) is less) ∙ sym is
