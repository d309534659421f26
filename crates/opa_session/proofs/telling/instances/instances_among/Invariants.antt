use Rattle.std.specs.Prelude.{◌<◌, ◌≤◌, ◌-◌, length}
use Rattle.std.specs.Option.{option_copied}
use Rattle.opa_session.specs.Telling.Sought.{is_wanted}
use Rattle.opa_session.specs.Telling.Wanted.{AreAmong}
use Rattle.opa_session.proofs.telling.instances.instances_among.Given as goal

abbrev pub invariant-loop-entity : goal.invariant-loop-entity
invariant-loop-entity g l = record {
  filled : AreAmong l.entity (g.K.Lined.over l.held).live (is_wanted (option_copied l.wanted)) l.lists;
  some : 0 < l.entity;
  within : l.entity ≤ length (g.K.Lined.rules l.held).model.entities;
}

abbrev pub decreases-loop-entity : goal.decreases-loop-entity
decreases-loop-entity g l = length (g.K.Lined.rules l.held).model.entities - l.entity
