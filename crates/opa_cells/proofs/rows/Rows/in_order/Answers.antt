use Rattle.std.proofs.Common.{ap, ◌∙◌}
use Rattle.std.specs.Cmp.{nat_cmp_total}
use Rattle.std.specs.FinMap as map
use Rattle.std.specs.Ordering.{nat_cmp}
use Rattle.std.proofs.lemmas.Map.Lookups.{exact_unsigned}
use Rattle.opa_cells.specs.Rows.{all_entries, insert_each, tree_map}
use Rattle.opa_cells.proofs.Sorted.{tree_entries}
use Rattle.opa_cells.proofs.Numbered.{rows_each, numbered_entries}
use Rattle.opa_cells.proofs.rows.Rows.in_order.Goals as goal

pub returns : goal.returns
returns g c =
    let rs = c.self.inside.rows.entries in
    ap all_entries (tree_entries nat_cmp nat_cmp_total exact_unsigned c.add_rows.new.tree.entries c.len-count.ensures.ordered
    ∙ ap map.entries (c.in_ok-add_rows.ensures ∙ ap (λ ts. insert_each (tree_map nat_cmp ts) rs) c.new-tree.ensures.empty ∙ rows_each rs c.len-rows.ensures.unique))
    ∙ numbered_entries rs ∙ ap map.entries c.self.view_is
