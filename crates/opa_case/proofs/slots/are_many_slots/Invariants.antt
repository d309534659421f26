use Rattle.std.specs.Prelude.{◌≡◌, ◌≤◌, ◌-◌, length}
use Rattle.opa_case.specs.Shapes.{shape_of}
use Rattle.opa_case.specs.Live.{Population}
use Rattle.opa_case.specs.Steps.{slots_upto}
use Rattle.opa_case.proofs.slots.are_many_slots.Given as goal

abbrev pub invariant-loop-number : goal.invariant-loop-number
invariant-loop-number g l = record {
  total : (live : Population) → g.C.Counted.counts l.counts live → l.total ≡ slots_upto (shape_of l.model) l.ruled live l.number;
  few : l.total ≤ 2000000;
  within : l.number ≤ length l.model.attributes;
}

abbrev pub decreases-loop-number : goal.decreases-loop-number
decreases-loop-number g l = length l.model.attributes - l.number
