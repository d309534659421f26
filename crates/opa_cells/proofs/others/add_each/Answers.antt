use Rattle.std.proofs.Common.{arith, ap, ◌∙◌, ◌≡◌, ◌∷◌}
use Rattle.std.proofs.lemmas.Grind.{common_steps}
use Rattle.opa_cells.specs.Instances.{instance_cmp}
use Rattle.opa_cells.proofs.Orders.{instance_exact, instance_total}
use Rattle.opa_cells.specs.Rows.{insert_each, tree_map}
use Rattle.opa_cells.proofs.Sorted.{tree_put}
use Rattle.opa_cells.proofs.others.add_each.Goals as goal

pub loop-inst-preserved : goal.loop-inst-preserved
loop-inst-preserved g c =
    let step : (c.in-Some.inst.now, c.in-Some.value.now) ∷ c.next.new.self ≡ c.loop-inst.inst-iterator = grind (arith, common_steps) in
    ap (λ m. insert_each m c.next.new.self) (tree_put instance_cmp instance_total instance_exact c.loop-inst.tree.entries c.insert.new.self.entries c.in-Some.inst c.in-Some.value c.in_ok-insert.ensures.entries)
    ∙ ap (insert_each (tree_map instance_cmp c.loop-inst.tree.entries)) step
    ∙ c.loop-inst.invariant
