use Rattle.std.proofs.Common.{length}
use Rattle.opa_words.specs.Pieces.{seen, AreOfKind}
use Rattle.opa_script.proofs.Passing.{IsAsShort}
use Rattle.opa_script.proofs.short.are_short.Given as goal

abbrev pub invariant-loop-kind : goal.invariant-loop-kind
invariant-loop-kind l = record {
  same : IsAsShort (seen l.fn.start) (seen l.rest);
  kinds : AreOfKind l.rest;
}

abbrev pub decreases-loop-kind : goal.decreases-loop-kind
decreases-loop-kind l = length (seen l.rest)
