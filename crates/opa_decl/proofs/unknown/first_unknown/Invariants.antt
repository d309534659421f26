use Rattle.std.proofs.Common.{◌≡◌, length}
use Rattle.std.specs.Prelude.{flat_map}
use Rattle.opa_tree.specs.FirstFaults.{first_of, first_fault}
use Rattle.opa_decl.specs.Faults.{name_faults}
use Rattle.opa_decl.specs.Seen.{seen}
use Rattle.opa_decl.proofs.unknown.first_unknown.Given as goal

abbrev pub invariant-loop-numbered : goal.invariant-loop-numbered
invariant-loop-numbered l = first_of l.first (first_fault (flat_map (name_faults (seen l.tables)) l.rest)) ≡ first_fault (flat_map (name_faults (seen l.tables)) l.items)

abbrev pub decreases-loop-numbered : goal.decreases-loop-numbered
decreases-loop-numbered l = length l.rest
