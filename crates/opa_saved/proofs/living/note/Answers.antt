use Rattle.std.proofs.Common.{sym, ap, ◌∙◌, Some, cond}
use Rattle.opa_cells.specs.Instances.{is_same}
use Rattle.opa_case.specs.Live.{container_of}
use Rattle.opa_saved.proofs.HomeLaws.{noted_here, noted_new}
use Rattle.opa_saved.proofs.living.note.Goals as goal

pub returns-then-contains_key : goal.returns-then-contains_key
returns-then-contains_key c = noted_here (container_of c.args.homes.now.entries) c.args.inst.now c.args.container.now (sym c.contains_key.ensures ∙ c.if-contains_key.true)

pub returns-in-Ok : goal.returns-in-Ok
returns-in-Ok c q =
    let old = container_of c.args.homes.now.entries q in
    c.in-Ok.ensures.updates.0 q
    ∙ ap (λ k. cond (is_same k q) (Some c.in_ok-home.home) old) c.in_ok-key.ensures
    ∙ ap (λ h. cond (is_same c.args.inst.now q) (Some h) old) c.in_ok-home.ensures
    ∙ noted_new (container_of c.args.homes.now.entries) c.args.inst.now c.args.container.now (sym c.contains_key.ensures ∙ c.if-contains_key.false) q
