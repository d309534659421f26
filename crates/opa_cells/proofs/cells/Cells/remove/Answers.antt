use Rattle.std.proofs.Common.{sym, ap, subst, ◌∙◌, ◌≤◌, ◌-◌, ℕ, cond}
use Rattle.std.specs.FinMap as map
use Rattle.opa_cells.specs.declared.instance.InstanceId.{InstanceId}
use Rattle.opa_cells.proofs.Orders.{cell_total}
use Rattle.opa_cells.proofs.Walked.{some_counted, none_removed}
use Rattle.opa_cells.proofs.cells.Cells.remove.Goals as goal

pub overflow_sub-self : goal.overflow_sub-self
overflow_sub-self g c = subst (λ n. 1 ≤ n) (sym c.self.invariant) (some_counted c.self.inside.rows (c.args.number, c.args.inst.now) (sym c.remove.ensures.was ∙ c.if-remove.true))

pub invariant_of-self : goal.invariant_of-self
invariant_of-self g c =
    let k : ℕ × InstanceId = (c.args.number, c.args.inst.now) in
    ap (λ n. n - 1) c.self.invariant
    ∙ ap (λ b. cond b (map.len c.self.inside.rows - 1) (map.len c.self.inside.rows)) (sym (sym c.remove.ensures.was ∙ c.if-remove.true))
    ∙ sym (ap map.len c.remove.ensures.removed ∙ map.len-remove cell_total c.self.inside.rows k)

pub invariant_of-self-else-remove : goal.invariant_of-self-else-remove
invariant_of-self-else-remove g c =
    let k : ℕ × InstanceId = (c.args.number, c.args.inst.now) in
    c.self.invariant ∙ ap map.len (none_removed c.self.inside.rows k (sym c.remove.ensures.was ∙ c.if-remove.false)) ∙ sym (ap map.len c.remove.ensures.removed)
