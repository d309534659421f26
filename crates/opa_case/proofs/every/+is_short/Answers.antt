use Rattle.std.proofs.Common.{sym, ap, subst, ◌∙◌, ◌-◌, arith}
use Rattle.std.specs.Prelude.{length}
use Rattle.std.specs.Option.{option_and_then}
use Rattle.opa_case.specs.declared.declared.Nest.{Nest}
use Rattle.opa_case.specs.Fewer.{AreFewer}
use Rattle.opa_case.specs.Live.{members, live_of, walk}
use Rattle.opa_case.specs.Shapes.{shape_of}
use Rattle.opa_case.proofs.Fewer.{few_lists}
use Rattle.opa_case.proofs.Shaped.{shape_is}
use Rattle.opa_case.proofs.Walks.{onward, walk_next}
use Rattle.opa_case.proofs.every.+is_short.Goals as goal

pub returns-then-are_fewer : goal.returns-then-are_fewer
returns-then-are_fewer g t c form counted near inside h =
    let s = shape_of c.args.model.now in
    let l = g.L.Lists.lists c.args.lists.now in
    let e = c.args.entity in
    let shape = shape_is c.args.model.now form in
    let early = shape.earlier e (omega (arith, c.if-entity-eq0.false)) inside in
    let few = subst (λ (d : Nest). AreFewer l d.contained (length (members d.parent (live_of s l)))) c.nest_of-nest.ensures
    (subst (AreFewer l c.nest_of-nest.result.contained) (c.of.ensures (live_of s l) counted.each) (c.are_fewer.ensures c.if-are_fewer.true)) in
    sym (walk_next s l c.args.steps e c.if-steps-eq0.false c.if-entity-eq0.false)
    ∙ few_lists s shape l counted.once (c.args.steps - 1) e (omega (arith, early, near)) (omega (arith, early, inside)) few

pub returns : goal.returns
returns g t c form counted near inside h =
    let s = shape_of c.args.model.now in
    let l = g.L.Lists.lists c.args.lists.now in
    let e = c.args.entity in
    let shape = shape_is c.args.model.now form in
    let early = shape.earlier e (omega (arith, c.if-entity-eq0.false)) inside in
    let parent = ap (λ (d : Nest). d.parent) c.nest_of-nest.ensures in
    sym (walk_next s l c.args.steps e c.if-steps-eq0.false c.if-entity-eq0.false)
    ∙ ap (option_and_then (onward s l e))
    (ap (walk s l (c.args.steps - 1)) (sym parent) ∙ c.is_short.ensures form counted (omega (arith, early, near, parent)) (omega (arith, early, inside, parent)) h)
