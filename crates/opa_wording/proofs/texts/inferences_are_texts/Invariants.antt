use Rattle.std.proofs.Common.{All, length}
use Rattle.std.specs.Str.{IsUtf8}
use Rattle.opa_parse.specs.Naming.{inferred_phrases}
use Rattle.opa_wording.proofs.texts.inferences_are_texts.Given as goal

abbrev pub invariant-loop-inferred : goal.invariant-loop-inferred
invariant-loop-inferred l = All IsUtf8 (inferred_phrases l.rest) → All IsUtf8 (inferred_phrases l.inferences)

abbrev pub decreases-loop-inferred : goal.decreases-loop-inferred
decreases-loop-inferred l = length l.rest
