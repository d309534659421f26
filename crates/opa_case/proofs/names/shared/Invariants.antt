use Rattle.std.specs.Prelude.{◌≡◌, ◌≤◌, ◌-◌, length, take}
use Rattle.opa_case.proofs.names.shared.Given as goal

abbrev pub invariant-loop-at : goal.invariant-loop-at
invariant-loop-at l = record {
  same : take l.at l.names ≡ take l.at l.others;
  within : l.at ≤ length l.names;
}

abbrev pub decreases-loop-at : goal.decreases-loop-at
decreases-loop-at l = length l.names - l.at
