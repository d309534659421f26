use Rattle.opa_case.specs.Shapes.{shape_of}
use Rattle.opa_case.proofs.Counting.{few_enough}
use Rattle.opa_case.proofs.slots.has_many_slots.Goals as goal

pub returns-then-are_few_slots : goal.returns-then-are_few_slots
returns-then-are_few_slots g c live is = few_enough (shape_of c.args.model.now) c.args.ruled.now live (c.are_few_slots.ensures live is c.if-are_few_slots.true)
