use Rattle.std.specs.Prelude.{◌≤◌, ◌<◌, ◌-◌, ℕ, length}
use Rattle.opa_case.specs.Shapes.{shape_of}
use Rattle.opa_case.specs.Below.{StaysUnknown}
use Rattle.opa_case.proofs.every.all_stay.Given as goal

abbrev pub invariant-loop-number : goal.invariant-loop-number
invariant-loop-number g l = record {
  stay : (n : ℕ) → n < l.number → StaysUnknown (shape_of l.model) (g.L.Lists.lists l.lists) l.before l.entity n;
  within : l.number ≤ length l.model.relations;
}

abbrev pub decreases-loop-number : goal.decreases-loop-number
decreases-loop-number g l = length l.model.relations - l.number
