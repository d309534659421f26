use Rattle.std.proofs.Common.{sym, ap, ◌∙◌, ◌-◌, Some}
use Rattle.std.specs.Option.{option_map, option_and_then}
use Rattle.opa_case.specs.declared.declared.Nest.{Nest}
use Rattle.opa_case.specs.Shapes.{shape_of}
use Rattle.opa_case.specs.Live.{walk}
use Rattle.opa_case.proofs.Walks.{onward, walk_none, walk_root, walk_next}
use Rattle.opa_case.proofs.Commit.{if_ok}
use Rattle.opa_case.proofs.every.+walk.Goals as goal

pub returns-then-steps-eq0 : goal.returns-then-steps-eq0
returns-then-steps-eq0 g t c = ap Some c.in_ok-root.ensures ∙ walk_none (shape_of c.args.model.now) (g.L.Lists.lists c.args.lists.now) c.args.steps c.args.entity c.if-steps-eq0.true

pub returns-then-entity-eq0 : goal.returns-then-entity-eq0
returns-then-entity-eq0 g t c = ap Some c.in_ok-root-2.ensures ∙ walk_root (shape_of c.args.model.now) (g.L.Lists.lists c.args.lists.now) c.args.steps c.args.entity c.if-entity-eq0.true

pub returns-in-None : goal.returns-in-None
returns-in-None g t c =
    let s = shape_of c.args.model.now in
    let l = g.L.Lists.lists c.args.lists.now in
    let e = c.args.entity in
    ap (option_and_then (onward s l e)) (sym (ap (option_map (λ v. v.items)) c.in-None.is) ∙ c.in_ok-walk.ensures ∙ ap (λ (d : Nest). walk s l (c.args.steps - 1) d.parent) c.nest_of-nest.ensures)
    ∙ walk_next s l c.args.steps e c.if-steps-eq0.false c.if-entity-eq0.false

pub returns-in-Some : goal.returns-in-Some
returns-in-Some g t c =
    let s = shape_of c.args.model.now in
    let l = g.L.Lists.lists c.args.lists.now in
    let e = c.args.entity in
    if_ok c.gather.result (λ o h. h
    ∙ ap (λ (d : Nest). onward (record s { contained = λ k. d.contained }) l e c.deref.result.now) c.nest_of-nest.ensures
    ∙ ap (onward s l e) c.deref.ensures.value
    ∙ ap (option_and_then (onward s l e)) (sym (ap (option_map (λ v. v.items)) c.in-Some.is) ∙ c.in_ok-walk.ensures ∙ ap (λ (d : Nest). walk s l (c.args.steps - 1) d.parent) c.nest_of-nest.ensures)
    ∙ walk_next s l c.args.steps e c.if-steps-eq0.false c.if-entity-eq0.false) c.gather.ensures
