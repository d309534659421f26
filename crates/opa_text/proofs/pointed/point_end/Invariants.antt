use Rattle.std.proofs.Common.{◌≡◌, ◌+◌, length}
use Rattle.opa_words.specs.Pieces.{seen, AreOfKind}
use Rattle.opa_text.specs.Pointed as meant
use Rattle.opa_text.proofs.pointed.point_end.Given as goal

abbrev pub invariant-loop-kind : goal.invariant-loop-kind
invariant-loop-kind l = record {
  end : l.count + meant.point_end (seen l.rest) ≡ meant.point_end (seen l.fn.start);
  size : l.count + length (seen l.rest) ≡ length (seen l.fn.start);
  kinds : AreOfKind l.rest;
}

abbrev pub decreases-loop-kind : goal.decreases-loop-kind
decreases-loop-kind l = length (seen l.rest)
