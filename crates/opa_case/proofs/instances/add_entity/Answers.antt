use Rattle.std.proofs.Common.{◌∙◌, ap, sym, List, [], get_or}
use Rattle.opa_cells.specs.declared.instance.InstanceId.{InstanceId}
use Rattle.opa_case.specs.Cases.{list_of}
use Rattle.opa_case.specs.Shapes.{shape_of}
use Rattle.opa_case.specs.Instances.{listed_by}
use Rattle.opa_case.specs.declared.declared.Nest.{Nest}
use Rattle.opa_case.proofs.Shaped.{shape_is}
use Rattle.opa_case.proofs.Peopled.{contained_members, parent_before, with_next, on_ok}
use Rattle.opa_case.proofs.instances.add_entity.Goals as goal

pub returns : goal.returns
returns c =
    let s = shape_of c.args.model.now in
    let shape = shape_is c.args.model.now c.requires.form in
    let e = c.args.entity in
    let case = c.args.case.now in
    on_ok c.push.result _ _ (λ is. with_next case e c.args.lists.now c.push.new.self c.in_ok-found.found c.requires.before is
    (c.in_ok-found.ensures ∙ ap (λ (d : Nest). listed_by (list_of case) d.contained e c.instances_of-containers.result.now) c.nest_of-nest.ensures
    ∙ ap (listed_by (list_of case) (s.contained e) e) (c.instances_of-containers.ensures ∙ ap (λ (xs : List (List InstanceId)). get_or xs c.nest_of-nest.result.parent []) c.as_slice.ensures ∙ ap (λ (d : Nest). get_or c.args.lists.now d.parent []) c.nest_of-nest.ensures
    ∙ c.requires.before.in_order (s.parent e) (parent_before s c.args.ruled.now shape case c.requires.fits e c.requires.contained c.requires.declared))
    ∙ sym (contained_members s c.args.ruled.now shape case c.requires.fits e c.requires.contained c.requires.declared))) c.push.ensures.ok
