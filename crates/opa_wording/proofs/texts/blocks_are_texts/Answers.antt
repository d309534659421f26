use Rattle.std.proofs.Common.{All, subst}
use Rattle.std.specs.Str.{IsUtf8}
use Rattle.opa_words.specs.declared.layout.block.BlockLine.{BlockLine}
use Rattle.opa_wording.proofs.TextsLaws.{more_blocks}
use Rattle.opa_wording.proofs.texts.blocks_are_texts.Goals as goal

pub loop-block-preserved : goal.loop-block-preserved
loop-block-preserved c =
    more_blocks c.args.blocks.now c.loop-block.rest.now c.in-Some.later.now c.in-Some.block.now c.in-Some.ensures
    (subst (All (λ (y : BlockLine). IsUtf8 y.text)) c.as_slice.ensures c.lines_are_texts.ensures) c.loop-block.invariant
