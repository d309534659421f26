use Rattle.std.proofs.Common.{ap, ◌∙◌}
use Rattle.std.specs.FinMap as map
use Rattle.opa_cells.specs.Instances.{instance_cmp}
use Rattle.opa_cells.proofs.Orders.{instance_exact, instance_total}
use Rattle.opa_cells.specs.Rows.{insert_each, tree_map}
use Rattle.opa_cells.proofs.Sorted.{tree_entries, row_each}
use Rattle.opa_cells.proofs.others.Others.in_order.Goals as goal

pub returns : goal.returns
returns g c =
    let es = c.self.inside.cells.entries in
    tree_entries instance_cmp instance_total instance_exact c.add_each.new.tree.entries c.len-count.ensures.ordered
    ∙ ap map.entries (c.in_ok-add_each.ensures ∙ ap (λ ts. insert_each (tree_map instance_cmp ts) es) c.new-tree.ensures.empty ∙ row_each es c.len-cells.ensures.unique ∙ c.self.view_is)
