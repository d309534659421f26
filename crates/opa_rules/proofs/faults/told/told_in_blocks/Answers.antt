use Rattle.std.proofs.Common.{IfSome, ap, sym, subst, ◌∙◌}
use Rattle.std.specs.Option.{option_copied}
use Rattle.opa_words.specs.declared.layout.block.Block.{Block}
use Rattle.opa_parse.specs.Fronts.{AreShort}
use Rattle.opa_rules.specs.Faults.Blocks.{has_line}
use Rattle.opa_rules.proofs.FaultLaws.{found_has}
use Rattle.opa_rules.proofs.faults.told.told_in_blocks.Goals as goal

pub told_in_block-requires : goal.told_in_block-requires
told_in_block-requires c =
    let is_short = λ (b : Block). AreShort b.lines in
    subst (λ o. IfSome o is_short) (sym c.block_with.ensures ∙ ap option_copied c.in-Some.is) (found_has is_short (has_line c.args.fault.now.file c.args.fault.now.line) c.args.blocks.now c.requires)
