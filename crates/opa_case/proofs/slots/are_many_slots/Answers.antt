use Rattle.std.proofs.Common.{arith}
use Rattle.opa_case.specs.Shapes.{shape_of}
use Rattle.opa_case.proofs.Counting.{slots_none, slots_next, pass}
use Rattle.opa_case.proofs.slots.are_many_slots.Goals as goal

pub loop-number-init : goal.loop-number-init
loop-number-init g c = record { total = λ live _. slots_none (shape_of c.args.model.now) c.args.ruled.now live; few = omega arith; within = omega arith }

pub returns-then-total-more : goal.returns-then-total-more
returns-then-total-more g c live is =
    let test = c.if-total-more.true in
    pass (shape_of c.args.model.now) c.args.ruled.now live c.loop-number.number _ c.loop-number.total c.slots_of-more.result (omega (arith, c.loop-number-test.true, c.attribute_count-count.ensures.count)) (c.loop-number.invariant.total live is) (c.slots_of-more.ensures live is) c.loop-number.invariant.few test

pub loop-number-preserved : goal.loop-number-preserved
loop-number-preserved g c =
    record {
      total = λ live is. let next = slots_next (shape_of c.args.model.now) c.args.ruled.now live c.loop-number.number in let before = c.loop-number.invariant.total live is in let more = c.slots_of-more.ensures live is in omega (arith, before, more, next);
      few = omega (arith, c.if-total-more.false, c.loop-number.invariant.few);
      within = omega (arith, c.loop-number-test.true, c.attribute_count-count.ensures.count);
    }
