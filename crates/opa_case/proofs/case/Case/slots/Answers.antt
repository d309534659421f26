use Rattle.std.proofs.Common.{arith}
use Rattle.opa_case.specs.Shapes.{shape_of}
use Rattle.opa_case.proofs.Counting.{slots_none, slots_next}
use Rattle.opa_case.proofs.case.Case.slots.Goals as goal

pub loop-number-init : goal.loop-number-init
loop-number-init c = record { total = slots_none (shape_of c.args.model.now) c.args.ruled.now c.args.self.now.live; few = omega arith; within = omega arith }

pub loop-number-preserved : goal.loop-number-preserved
loop-number-preserved c =
    let next = slots_next (shape_of c.args.model.now) c.args.ruled.now c.args.self.now.live c.loop-number.number in
    record {
      total = omega (arith, c.loop-number.invariant.total, c.slots_of-total.ensures.value, next);
      few = omega (arith, c.loop-number.invariant.few, c.slots_of-total.ensures.few);
      within = omega (arith, c.loop-number-test.true, c.attribute_count-count.ensures.count);
    }
