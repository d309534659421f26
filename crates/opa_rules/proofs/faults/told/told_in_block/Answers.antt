use Rattle.std.proofs.Common.{◌<◌, ◌^◌, length, IfSome, sym, subst}
use Rattle.opa_words.specs.declared.layout.block.BlockLine.{BlockLine}
use Rattle.opa_parse.specs.Fronts.{AreShort}
use Rattle.opa_rules.specs.Faults.Blocks.{has_number}
use Rattle.opa_rules.proofs.FaultLaws.{found_has}
use Rattle.opa_rules.proofs.faults.told.told_in_block.Goals as goal

pub told_of_line-requires-clause-line : goal.told_of_line-requires-clause-line
told_of_line-requires-clause-line c =
    let is_short = λ (l : BlockLine). length l.text < 2 ^ 32 in
    subst (λ o. IfSome o is_short) (sym c.line_in.ensures) (found_has is_short (has_number c.args.fault.now.line) c.as_slice-lines.result.now (subst AreShort (sym c.as_slice-lines.ensures) c.requires))
