use Rattle.std.specs.Prelude.{◌<◌, ◌+◌, ◌-◌, length}
use Rattle.opa_case.specs.Shapes.{shape_of}
use Rattle.opa_saved.specs.Building.{HoldsSome, OnlyContains, HasBefore}
use Rattle.opa_saved.proofs.build.case_of_lists.Given as goal

abbrev pub invariant-loop-entity : goal.invariant-loop-entity
invariant-loop-entity l = record {
  some : HoldsSome (shape_of l.model) l.ruled l.lists l.case;
  only : OnlyContains (shape_of l.model) l.case;
  before : HasBefore (shape_of l.model) l.lists l.case (l.entity + 1);
  within : l.entity < length l.model.entities;
}

abbrev pub decreases-loop-entity : goal.decreases-loop-entity
decreases-loop-entity l = length l.model.entities - l.entity
