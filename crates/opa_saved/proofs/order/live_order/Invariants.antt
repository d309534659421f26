use Rattle.std.specs.Prelude.{◌≡◌, ◌<◌, ◌-◌, length}
use Rattle.opa_case.specs.Shapes.{shape_of}
use Rattle.opa_case.specs.Live.{live_upto}
use Rattle.opa_saved.proofs.order.live_order.Given as goal

abbrev pub invariant-loop-entity : goal.invariant-loop-entity
invariant-loop-entity g l = record {
  filled : l.order.items ≡ live_upto (shape_of l.model) (g.L.Lists.lists l.lists) l.entity;
  within : l.entity < length l.model.entities;
}

abbrev pub decreases-loop-entity : goal.decreases-loop-entity
decreases-loop-entity g l = length l.model.entities - l.entity
