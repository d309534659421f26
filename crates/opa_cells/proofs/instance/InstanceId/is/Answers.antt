use Rattle.opa_cells.proofs.Rowed.{named_test}
use Rattle.opa_cells.proofs.instance.InstanceId.is.Goals as goal

pub returns-then-self-entity : goal.returns-then-self-entity
returns-then-self-entity c = named_test c.args.entity c.args.name.now c.args.self.now c.same.result c.if-self-entity.true c.same.ensures.0 c.same.ensures.1
