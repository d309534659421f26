use Rattle.std.proofs.Common.{ℕ, [], length, All}
use Rattle.opa_parse.specs.Fronts.{AreShort}
use Rattle.opa_parse.specs.Runs.{IsTaken, IsRun}
use Rattle.opa_parse.proofs.rules.take_blocks.Given as goal

abbrev pub invariant-loop-block : goal.invariant-loop-block
invariant-loop-block l = record {
  short : All (λ b. AreShort b.lines) l.rest;
  run : (start : ℕ) → IsTaken start [] l.fn.taken → IsRun l.model l.names start l.blocks l.rest l.next;
}

abbrev pub decreases-loop-block : goal.decreases-loop-block
decreases-loop-block l = length l.rest
