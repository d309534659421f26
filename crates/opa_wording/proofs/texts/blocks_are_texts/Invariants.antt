use Rattle.std.proofs.Common.{length}
use Rattle.opa_wording.specs.ReadBack.{AreTextual}
use Rattle.opa_wording.proofs.texts.blocks_are_texts.Given as goal

abbrev pub invariant-loop-block : goal.invariant-loop-block
invariant-loop-block l = AreTextual l.rest → AreTextual l.blocks

abbrev pub decreases-loop-block : goal.decreases-loop-block
decreases-loop-block l = length l.rest
