use Rattle.std.specs.Prelude.{◌≡◌, ◌<◌, ◌-◌, length}
use Rattle.opa_case.specs.Shapes.{shape_of}
use Rattle.opa_case.specs.Turns.{gone_upto}
use Rattle.opa_case.proofs.turn.gone_with.Given as goal

abbrev pub invariant-loop-entity : goal.invariant-loop-entity
invariant-loop-entity g l = record {
  filled : l.gone.items ≡ gone_upto (shape_of l.model) (g.L.Lists.lists l.lists) l.target l.seeds l.entity;
  within : l.entity < length l.model.entities;
}

abbrev pub decreases-loop-entity : goal.decreases-loop-entity
decreases-loop-entity g l = length l.model.entities - l.entity
