use Rattle.std.proofs.Common.{sym, ap, ◌∙◌, ◌-◌, Some, map, List}
use Rattle.std.specs.Option.{option_map, option_and_then}
use Rattle.opa_cells.specs.declared.instance.InstanceId.{InstanceId}
use Rattle.opa_case.specs.declared.declared.Nest.{Nest}
use Rattle.opa_case.specs.Shapes.{shape_of}
use Rattle.opa_case.specs.Live.{walk, gathered}
use Rattle.opa_case.proofs.Walks.{onward, walk_none, walk_root, walk_next, names_again, each_name}
use Rattle.opa_case.proofs.Commit.{if_ok}
use Rattle.opa_case.proofs.every.names_of.Goals as goal

pub returns-then-steps-eq0 : goal.returns-then-steps-eq0
returns-then-steps-eq0 g c =
    ap Some c.in_ok-root_name.ensures ∙ ap (option_map each_name) (walk_none (shape_of c.args.model.now) (g.L.Lists.lists c.args.lists.now) c.args.steps c.args.entity c.if-steps-eq0.true)

pub returns-then-entity-eq0 : goal.returns-then-entity-eq0
returns-then-entity-eq0 g c =
    ap Some c.in_ok-root_name-2.ensures ∙ ap (option_map each_name) (walk_root (shape_of c.args.model.now) (g.L.Lists.lists c.args.lists.now) c.args.steps c.args.entity c.if-entity-eq0.true)

pub returns-in-None : goal.returns-in-None
returns-in-None g c =
    let s = shape_of c.args.model.now in
    let l = g.L.Lists.lists c.args.lists.now in
    let e = c.args.entity in
    ap (option_map each_name)
    (ap (option_and_then (onward s l e)) (sym (ap (option_map (λ v. v.items)) c.in-None.is) ∙ c.in_ok-walk.ensures ∙ ap (λ (d : Nest). walk s l (c.args.steps - 1) d.parent) c.nest_of-nest.ensures)
    ∙ walk_next s l c.args.steps e c.if-steps-eq0.false c.if-entity-eq0.false)

pub returns-in-Some : goal.returns-in-Some
returns-in-Some g c =
    let s = shape_of c.args.model.now in
    let l = g.L.Lists.lists c.args.lists.now in
    let e = c.args.entity in
    if_ok c.gather_names.result (λ o h. h
    ∙ ap (λ (d : Nest). gathered (map (l d.contained) c.deref.result.now)) c.nest_of-nest.ensures
    ∙ ap (λ (is : List InstanceId). gathered (map (l (s.contained e)) is)) c.deref.ensures.value
    ∙ names_again e _
    ∙ ap (option_map each_name)
    (ap (option_and_then (onward s l e)) (sym (ap (option_map (λ v. v.items)) c.in-Some.is) ∙ c.in_ok-walk.ensures ∙ ap (λ (d : Nest). walk s l (c.args.steps - 1) d.parent) c.nest_of-nest.ensures)
    ∙ walk_next s l c.args.steps e c.if-steps-eq0.false c.if-entity-eq0.false)) c.gather_names.ensures
