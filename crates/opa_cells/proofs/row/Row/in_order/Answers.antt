use Rattle.std.proofs.Common.{ap, sym, ◌∙◌}
use Rattle.std.specs.FinMap as map
use Rattle.opa_cells.specs.Rows.{with_one}
use Rattle.opa_cells.proofs.Ones.{tree_one}
use Rattle.opa_cells.proofs.row.Row.in_order.Goals as goal

pub returns-in_ok-insert-in-Some : goal.returns-in_ok-insert-in-Some
returns-in_ok-insert-in-Some g c =
    tree_one c.in_ok-tree.tree.entries c.insert.new.self.entries _ _ c.self.inside.others c.in_ok-insert-in-Some.ensures.entries c.in_ok-tree.ensures
    ∙ ap (λ o. map.entries (with_one o c.self.inside.others)) (sym c.in-Some.is) ∙ ap map.entries c.self.view_is
