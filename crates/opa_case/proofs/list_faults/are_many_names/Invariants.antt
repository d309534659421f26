use Rattle.std.specs.Prelude.{◌≡◌, ◌≤◌, ℕ, List, true, length, drop}
use Rattle.std.specs.List.{list_any}
use Rattle.opa_cells.specs.Instances.{is_text}
use Rattle.opa_case.specs.Cases.{are_names}
use Rattle.opa_case.specs.Homes.{has_name}
use Rattle.opa_case.proofs.list_faults.are_many_names.Given as goal

abbrev pub invariant-loop-at : goal.invariant-loop-at
invariant-loop-at l = record {
  later : (q : List ℕ) → has_name l.later q ≡ list_any (is_text q) (drop l.at l.names);
  are : are_names (drop l.at l.names) ≡ true;
  within : l.at ≤ length l.names;
}

abbrev pub decreases-loop-at : goal.decreases-loop-at
decreases-loop-at l = l.at
