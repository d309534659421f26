use Rattle.std.proofs.Common.{ap, ◌∙◌}
use Rattle.opa_cells.specs.Rows.{insert_each, by_number}
use Rattle.opa_cells.proofs.Numbered.{rows_each, rows_copied}
use Rattle.opa_cells.proofs.rows.copy_rows.Goals as goal

pub returns : goal.returns
returns g c =
    let rs = c.args.rows.now.entries in
    rows_copied rs c.copy_each.new.copied.entries (c.in_ok-copy_each.ensures ∙ ap (λ es. insert_each (by_number es) rs) c.in_ok-copied.ensures ∙ rows_each rs c.len-len.ensures.unique)
