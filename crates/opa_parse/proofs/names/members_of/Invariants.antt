use Rattle.std.proofs.Common.{◌≡◌, ◌++◌, map, length}
use Rattle.opa_parse.specs.Naming.{member_of}
use Rattle.opa_parse.proofs.names.members_of.Given as goal

abbrev pub invariant-loop-inferred : goal.invariant-loop-inferred
invariant-loop-inferred l = l.members ++ map member_of l.rest ≡ map member_of l.inferences

abbrev pub decreases-loop-inferred : goal.decreases-loop-inferred
decreases-loop-inferred l = length l.rest
