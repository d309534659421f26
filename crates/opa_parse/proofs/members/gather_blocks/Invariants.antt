use Rattle.std.proofs.Common.{ℕ, List, [], length, All}
use Rattle.opa_parse.specs.Fronts.{AreShort}
use Rattle.opa_parse.specs.MemberRuns.{IsGathered, IsRun}
use Rattle.opa_parse.proofs.members.gather_blocks.Given as goal

abbrev pub invariant-loop-block : goal.invariant-loop-block
invariant-loop-block l = record {
  short : All (λ b. AreShort b.lines) l.rest;
  run : (declared : List (List ℕ)) → IsGathered declared [] l.fn.gathered → IsRun l.model l.names declared l.blocks l.rest l.next;
}

abbrev pub decreases-loop-block : goal.decreases-loop-block
decreases-loop-block l = length l.rest
