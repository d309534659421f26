use Rattle.std.proofs.Common.{length}
use Rattle.opa_words.specs.Pieces.{seen, AreOfKind}
use Rattle.tests_base.proofs.words.shown_pieces.Given as goal

abbrev pub invariant-loop-kind : goal.invariant-loop-kind
invariant-loop-kind l = AreOfKind l.rest

abbrev pub decreases-loop-kind : goal.decreases-loop-kind
decreases-loop-kind l = length (seen l.rest)
