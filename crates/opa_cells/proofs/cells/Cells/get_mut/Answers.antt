use Rattle.std.specs.FinMap as map
use Rattle.std.specs.Prelude.{is_some}
use Rattle.std.specs.Option.{option_copied_mut}
use Rattle.std.proofs.Common.{sym, ap, ◌∙◌, cond, ◌+◌, ℕ}
use Rattle.opa_cells.specs.declared.instance.InstanceId.{InstanceId}
use Rattle.opa_cells.proofs.Orders.{cell_total}
use Rattle.opa_cells.proofs.cells.Cells.get_mut.Goals as goal

pub invariant_of-self-lent : goal.invariant_of-self-lent
invariant_of-self-lent g c w =
    let k : ℕ × InstanceId = (c.args.number, c.args.inst.now) in
    let m = c.self.inside.rows in
    let there = ap is_some (sym c.get_mut.ensures.value ∙ ap option_copied_mut c.in-Some.is) in
    c.self.invariant ∙ sym (map.len-insert cell_total m k w ∙ ap (λ b. cond b (map.len m) (map.len m + 1)) there)
