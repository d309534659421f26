use Rattle.std.proofs.Common.{◌∙◌, ap}
use Rattle.opa_case.specs.Shapes.{shape_of}
use Rattle.opa_mean.specs.Mean.{fitted}
use Rattle.opa_mean.specs.Meaning.{value}
use Rattle.opa_mean.proofs.Building.{built_more}
use Rattle.opa_mean.proofs.plain.day_by_day.Goals as goal

pub loop-day-preserved : goal.loop-day-preserved
loop-day-preserved g c =
    let s = shape_of c.args.model.now in
    let f = value s (g.K.Look.looks c.args.look.now) c.args.tree.now c.args.enclosing.now in
    built_more (λ d. fitted s c.args.attr (f d)) c.loop-day.day c.loop-day.builder _ c.concluded.result c.loop-day-test.true c.loop-day.invariant c.in_ok-until.ensures
    (c.concluded.ensures ∙ ap (fitted s c.args.attr) (c.in_ok-value.ensures ∙ ap f c.new.ensures))
