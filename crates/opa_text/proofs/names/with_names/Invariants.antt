use Rattle.std.proofs.Common.{length}
use Rattle.opa_words.specs.Pieces.{seen, AreOfKind}
use Rattle.opa_text.proofs.NameLaws.{Named}
use Rattle.opa_text.proofs.names.with_names.Given as goal

abbrev pub invariant-loop-rest : goal.invariant-loop-rest
invariant-loop-rest l = record {
  named : Named l.fn.first (seen l.fn.start) l.names (seen l.rest);
  kinds : AreOfKind l.rest;
}

abbrev pub decreases-loop-rest : goal.decreases-loop-rest
decreases-loop-rest l = length (seen l.rest)
