use Rattle.std.proofs.Common.{ap, ◌∙◌, arith}
use Rattle.opa_case.specs.Shapes.{shape_of}
use Rattle.opa_case.specs.Steps.{with_every}
use Rattle.opa_case.proofs.Walks.{every_none, every_next}
use Rattle.opa_case.proofs.every.every_lists.Goals as goal

pub loop-number-init : goal.loop-number-init
loop-number-init g c = record { filled = c.new-every.ensures ∙ every_none (shape_of c.args.model.now) (g.L.Lists.lists c.args.lists.now); within = omega arith }

pub loop-number-preserved : goal.loop-number-preserved
loop-number-preserved g c =
    let s = shape_of c.args.model.now in
    let l = g.L.Lists.lists c.args.lists.now in
    let n = c.loop-number.number in
    record { filled = c.in_ok-add_every.ensures ∙ ap (with_every s l n) c.loop-number.invariant.filled ∙ every_next s l n; within = omega (arith, c.loop-number-test.true, c.relation_count-count.ensures.count) }
