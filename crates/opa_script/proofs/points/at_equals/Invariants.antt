use Rattle.std.proofs.Common.{length}
use Rattle.opa_words.specs.Pieces.{seen, AreOfKind}
use Rattle.opa_script.proofs.Passing.{Passed}
use Rattle.opa_script.proofs.points.at_equals.Given as goal

abbrev pub invariant-loop-kind : goal.invariant-loop-kind
invariant-loop-kind l = record {
  passed : Passed (seen l.fn.pieces) (seen l.rest) l.count;
  kinds : AreOfKind l.rest;
}

abbrev pub decreases-loop-kind : goal.decreases-loop-kind
decreases-loop-kind l = length (seen l.rest)
