use Rattle.std.proofs.Common.{length}
use Rattle.opa_words.specs.Pieces.{seen, AreOfKind}
use Rattle.opa_text.proofs.ChangeLaws.{Reached}
use Rattle.opa_text.proofs.changes.with_changes.Given as goal

abbrev pub invariant-loop-rest : goal.invariant-loop-rest
invariant-loop-rest l = record {
  reached : Reached l.fn.first (seen l.fn.start) l.pairs.items l.last (seen l.rest);
  kinds : AreOfKind l.rest;
}

abbrev pub decreases-loop-rest : goal.decreases-loop-rest
decreases-loop-rest l = length (seen l.rest)
