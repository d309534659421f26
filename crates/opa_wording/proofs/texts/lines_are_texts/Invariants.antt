use Rattle.std.proofs.Common.{All, length}
use Rattle.std.specs.Str.{IsUtf8}
use Rattle.opa_words.specs.declared.layout.block.BlockLine.{BlockLine}
use Rattle.opa_wording.proofs.texts.lines_are_texts.Given as goal

abbrev pub invariant-loop-line : goal.invariant-loop-line
invariant-loop-line l = All (λ (x : BlockLine). IsUtf8 x.text) l.rest → All (λ (x : BlockLine). IsUtf8 x.text) l.lines

abbrev pub decreases-loop-line : goal.decreases-loop-line
decreases-loop-line l = length l.rest
