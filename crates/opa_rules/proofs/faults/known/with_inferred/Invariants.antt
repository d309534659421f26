use Rattle.std.proofs.Common.{◌≡◌, ◌++◌, length}
use Rattle.opa_parse.specs.Naming.{inferred_phrases}
use Rattle.opa_rules.proofs.faults.known.with_inferred.Given as goal

abbrev pub invariant-loop-inferred : goal.invariant-loop-inferred
invariant-loop-inferred l = l.all ++ inferred_phrases l.rest ≡ l.fn.texts ++ inferred_phrases l.inferences

abbrev pub decreases-loop-inferred : goal.decreases-loop-inferred
decreases-loop-inferred l = length l.rest
