use Rattle.std.specs.Prelude.{◌<◌, ◌≤◌, ◌-◌, length}
use Rattle.opa_case.specs.Instances.{AreInstances}
use Rattle.opa_case.proofs.instances.live_instances.Given as goal

abbrev pub invariant-loop-entity : goal.invariant-loop-entity
invariant-loop-entity l = record {
  filled : AreInstances l.entity l.case l.lists;
  some : 0 < l.entity;
  within : l.entity ≤ length l.model.entities;
}

abbrev pub decreases-loop-entity : goal.decreases-loop-entity
decreases-loop-entity l = length l.model.entities - l.entity
