use Rattle.std.proofs.Common.{ap, ◌∙◌, ◌-◌}
use Rattle.opa_case.specs.declared.declared.Nest.{Nest}
use Rattle.opa_case.specs.Shapes.{shape_of}
use Rattle.opa_case.specs.Below.{is_under}
use Rattle.opa_case.proofs.Under.{under_none, under_root, under_here, under_next}
use Rattle.opa_case.proofs.every.+is_under.Goals as goal

pub returns-then-steps-eq0 : goal.returns-then-steps-eq0
returns-then-steps-eq0 t c = under_none (shape_of c.args.model.now) c.args.entity c.args.steps c.args.from c.if-steps-eq0.true

pub returns-then-from-eq0 : goal.returns-then-from-eq0
returns-then-from-eq0 t c = under_root (shape_of c.args.model.now) c.args.entity c.args.steps c.args.from c.if-steps-eq0.false c.if-from-eq0.true

pub returns-then-from-entity : goal.returns-then-from-entity
returns-then-from-entity t c = under_here (shape_of c.args.model.now) c.args.entity c.args.steps c.args.from c.if-steps-eq0.false c.if-from-eq0.false c.if-from-entity.true

pub returns : goal.returns
returns t c =
    c.is_under.ensures ∙ ap (λ (d : Nest). is_under (shape_of c.args.model.now) c.args.entity (c.args.steps - 1) d.parent) c.nest_of.ensures
    ∙ under_next (shape_of c.args.model.now) c.args.entity c.args.steps c.args.from c.if-steps-eq0.false c.if-from-eq0.false c.if-from-entity.false
