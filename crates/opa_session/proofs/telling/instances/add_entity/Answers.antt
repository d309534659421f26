use Rattle.std.proofs.Common.{◌≡◌, ◌∙◌, ap, sym, subst, List, [], get_or}
use Rattle.std.specs.Prelude.{unwrap_or}
use Rattle.std.specs.Option.{option_copied}
use Rattle.opa_cells.specs.declared.instance.InstanceId.{InstanceId}
use Rattle.opa_model.specs.declared.things.Entity.{Entity}
use Rattle.opa_case.specs.Cases.{list_of}
use Rattle.opa_case.specs.Shapes.{entity_or, no_entity}
use Rattle.opa_tree.specs.declared.rulebase.Rulebase.{Rulebase}
use Rattle.opa_session.specs.Telling.Placed.{HaveNames}
use Rattle.opa_session.specs.Telling.Sought.{is_wanted}
use Rattle.opa_session.specs.Telling.Wanted.{wanted_listed}
use Rattle.opa_session.proofs.telling.Wanting.{next_among, have_names, wanted_found}
use Rattle.opa_session.proofs.telling.instances.add_entity.Goals as goal

pub listed-requires : goal.listed-requires
listed-requires g c =
    let r = g.K.Lined.rules c.args.held.now in
    let case = g.K.Lined.over c.args.held.now in
    let nest = c.entity-nest.result.now in
    let declared : entity_or r.model c.args.entity ≡ nest = ap (λ (q : Rulebase). entity_or q.model c.args.entity) (sym c.base-base.ensures.base) ∙ ap (λ o. unwrap_or o no_entity) c.entity-nest.ensures in
    subst (λ (n : Entity). HaveNames case n.contained) declared (have_names r case c.base-base.ensures.fits c.args.entity c.requires.contained c.requires.declared)

pub returns : goal.returns
returns g c =
    let r = g.K.Lined.rules c.args.held.now in
    let case = g.K.Lined.over c.args.held.now in
    let w = is_wanted (option_copied c.args.wanted) in
    let e = c.args.entity in
    let nest = c.entity-nest.result.now in
    let declared : entity_or r.model e ≡ nest = ap (λ (q : Rulebase). entity_or q.model e) (sym c.base-base.ensures.base) ∙ ap (λ o. unwrap_or o no_entity) c.entity-nest.ensures in
    next_among case.live w e c.args.lists.now c.push.new.self c.in_ok-found.found c.requires.before c.in_ok-push.ensures.ok
    (c.in_ok-found.ensures
    ∙ ap (wanted_listed w (list_of case) nest.contained e) (c.instances_of-containers.ensures ∙ ap (λ (xs : List (List InstanceId)). get_or xs nest.parent.0 []) c.as_slice.ensures)
    ∙ ap (λ (n : Entity). wanted_listed w (list_of case) n.contained e (get_or c.args.lists.now n.parent.0 [])) (sym declared)
    ∙ wanted_found r case c.base-base.ensures.fits w c.requires.closed e c.requires.contained c.requires.declared c.args.lists.now c.requires.before)
