use Rattle.std.specs.Prelude.{◌≡◌, ◌≤◌, ◌-◌, ◌*◌, length}
use Rattle.opa_case.specs.Shapes.{shape_of}
use Rattle.opa_case.specs.Steps.{slots_upto}
use Rattle.opa_case.proofs.case.Case.slots.Given as goal

abbrev pub invariant-loop-number : goal.invariant-loop-number
invariant-loop-number l = record {
  total : l.total ≡ slots_upto (shape_of l.model) l.ruled l.self.live l.number;
  few : l.total ≤ 20001 * l.number;
  within : l.number ≤ length l.model.attributes;
}

abbrev pub decreases-loop-number : goal.decreases-loop-number
decreases-loop-number l = length l.model.attributes - l.number
