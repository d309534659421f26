use Rattle.std.proofs.Common.{ap, ◌∙◌}
use Rattle.std.specs.List.{list_any}
use Rattle.opa_case.specs.Shapes.{shape_of}
use Rattle.opa_case.specs.Steps.{cant_name}
use Rattle.opa_case.proofs.Kept.{any_behind}
use Rattle.opa_case.proofs.list_faults.cant_name_new.Goals as goal

pub returns : goal.returns
returns g c =
    let p = cant_name (shape_of c.args.model.now) (g.S.Standing.case c.args.case.now) c.args.rel c.args.inst.now in
    c.in_ok-cant.ensures ∙ ap (list_any p) c.split_at.ensures.back ∙ any_behind p c.args.names.now c.args.known.now c.shared.result c.shared.ensures.same c.requires
