use Rattle.std.proofs.Common.{◌≡◌, ◌+◌, ◌++◌, length}
use Rattle.opa_parse.specs.Naming.{inferred_phrases, inferred_from}
use Rattle.opa_parse.proofs.names.Relations.with_inferred.Given as goal

abbrev pub invariant-loop-inferred : goal.invariant-loop-inferred
invariant-loop-inferred l = record {
  texts : l.relations.texts ++ inferred_phrases l.rest ≡ l.fn.self.texts ++ inferred_phrases l.inferences;
  related : l.relations.related ++ inferred_from l.place l.rest ≡ l.fn.self.related ++ inferred_from 0 l.inferences;
  room : l.place + length l.rest ≡ length l.inferences;
}

abbrev pub decreases-loop-inferred : goal.decreases-loop-inferred
decreases-loop-inferred l = length l.rest
