use Rattle.std.proofs.Common.{arith, ap, ◌∙◌, ◌≡◌, ◌∷◌}
use Rattle.std.proofs.lemmas.Grind.{common_steps}
use Rattle.std.specs.Cmp.{nat_cmp_total}
use Rattle.std.specs.Ordering.{nat_cmp}
use Rattle.std.proofs.lemmas.Map.Lookups.{exact_unsigned}
use Rattle.opa_cells.specs.Rows.{insert_each, tree_map}
use Rattle.opa_cells.proofs.Sorted.{tree_put}
use Rattle.opa_cells.proofs.rows.add_rows.Goals as goal

pub loop-number-preserved : goal.loop-number-preserved
loop-number-preserved g c =
    let step : (c.in-Some.number.now, c.in-Some.row.now) ∷ c.next.new.self ≡ c.loop-number.number-iterator = grind (arith, common_steps) in
    ap (λ m. insert_each m c.next.new.self) (tree_put nat_cmp nat_cmp_total exact_unsigned c.loop-number.tree.entries c.insert.new.self.entries c.in-Some.number c.in-Some.row c.in_ok-insert.ensures.entries)
    ∙ ap (insert_each (tree_map nat_cmp c.loop-number.tree.entries)) step
    ∙ c.loop-number.invariant
