use Rattle.std.specs.Prelude.{◌≡◌, ◌≤◌, ◌-◌, length}
use Rattle.opa_case.specs.Shapes.{shape_of}
use Rattle.opa_case.specs.Steps.{every_upto}
use Rattle.opa_case.proofs.every.every_lists.Given as goal

abbrev pub invariant-loop-number : goal.invariant-loop-number
invariant-loop-number g l = record {
  filled : l.every ≡ every_upto (shape_of l.model) (g.L.Lists.lists l.lists) l.number;
  within : l.number ≤ length l.model.relations;
}

abbrev pub decreases-loop-number : goal.decreases-loop-number
decreases-loop-number g l = length l.model.relations - l.number
