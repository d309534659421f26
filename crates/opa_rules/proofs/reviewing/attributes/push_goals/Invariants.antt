use Rattle.std.proofs.Common.{◌≡◌, ◌++◌, take}
use Rattle.std.specs.Prelude.{flat_map}
use Rattle.opa_rules.specs.Reviewing.Looking.{settled_at}
use Rattle.opa_rules.proofs.reviewing.attributes.push_goals.Given as goal

abbrev pub invariant-loop-goal : goal.invariant-loop-goal
invariant-loop-goal l = l.findings ≡ l.initial.findings ++ flat_map (settled_at l.base) (take l.goal-index l.goals)
