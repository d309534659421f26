use Rattle.std.proofs.Common.{◌≡◌, length}
use Rattle.std.specs.Prelude.{flat_map}
use Rattle.opa_tree.specs.FirstFaults.{first_of, first_fault}
use Rattle.opa_decl.specs.Faults.{scope_faults}
use Rattle.opa_decl.specs.Seen.{seen}
use Rattle.opa_decl.proofs.unknown.first_astray.Given as goal

abbrev pub invariant-loop-goal : goal.invariant-loop-goal
invariant-loop-goal l = first_of l.first (first_fault (flat_map (scope_faults (seen l.tables) l.attributes) l.rest)) ≡ first_fault (flat_map (scope_faults (seen l.tables) l.attributes) l.goals)

abbrev pub decreases-loop-goal : goal.decreases-loop-goal
decreases-loop-goal l = length l.rest
