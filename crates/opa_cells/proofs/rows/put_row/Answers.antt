use Rattle.std.proofs.Common.{ap, ◌∙◌, cond, Some, refl}
use Rattle.std.specs.BTreeMap.{is_at}
use Rattle.std.specs.FinMap as map
use Rattle.opa_cells.specs.Instances.{instance_cmp}
use Rattle.opa_cells.proofs.Rowed.{changed, inserted, fresh, set_inserted}
use Rattle.opa_cells.proofs.Numbered.{rows_set}
use Rattle.opa_cells.proofs.rows.put_row.Goals as goal

pub returns-in-Ok-clause-ok : goal.returns-in-Ok-clause-ok
returns-in-Ok-clause-ok g c =
    let rs = c.args.rows.now.entries in
    let rs' = c.insert.new.self.entries in
    inserted rs rs' c.args.number c.args.inst c.args.value (changed rs rs' c.args.number c.args.inst c.in_ok-row.row (Some c.args.value) (rows_set rs rs' c.args.number (Some c.in_ok-row.row) c.in-Ok.ensures.updates.0)
    (λ j. set_inserted map.empty c.in_ok-row.row c.args.inst c.args.value c.in_ok-row.ensures j ∙ ap (cond (is_at (instance_cmp c.args.inst) j) (Some c.args.value)) (fresh rs c.args.number j map.empty c.requires refl)))
